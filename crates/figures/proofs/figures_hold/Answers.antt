use mathlib.Core.Path.{refl}
use Rattle.pairs.specs.Tables.{holds, table_of}
use Rattle.pairs.specs.Words.{bit, word}
use Rattle.grants.specs.Diagonal.{diagonal_granted, diagonal_wait, north_of, partner, west_of}
use Rattle.grants.specs.Ripple.{along, gap, north_at, port, ripple_granted, west_at}
use Rattle.figures.proofs.figures_hold.Goals as goal

pub returns : goal.returns
unfolding holds table_of bit word partner diagonal_granted north_of diagonal_wait west_of along gap ripple_granted north_at port west_at
returns c =
    record {
      figures = record {
        vci = refl;
        rewriting = refl;
        clearing = refl;
        diagonal-at-0 = refl;
        diagonal-at-1 = refl;
        ripple-at-1 = refl;
        contended = (refl, refl);
        waits = (refl, refl);
        short-period = (refl, refl);
        long-period = refl;
      };
      count = refl;
    }
