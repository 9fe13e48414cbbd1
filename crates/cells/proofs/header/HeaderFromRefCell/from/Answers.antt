use Rattle.std.proofs.Common.{arith, rules}
use Rattle.cells.specs.Layout.{LayoutLaw}
use Rattle.cells.proofs.header.HeaderFromRefCell.from.Goals as goal

layout-law : LayoutLaw
layout-law cell ok =
    record {
      gfc = omega (arith, ok.bytes 0);
      vpi = omega (arith, ok.bytes 1);
      vci = omega (arith, ok.bytes 2, ok.bytes 3);
      payload_type = omega arith;
      loss_priority = omega arith;
    }

pub returns : goal.returns
returns c = record { fields = search rules; layout = layout-law }
