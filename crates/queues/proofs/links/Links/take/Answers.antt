use Rattle.std.proofs.Common.{◌≡◌, ◌<◌, length, Some, refl, rules}
use Rattle.std.specs.List.{slice_get}
use Rattle.std.proofs.lemmas.Option.{slice_get_read}
use Rattle.queues.proofs.links.Links.take.Goals as goal

pub returns : goal.returns
returns g c =
    let xs = c.args.blocks.now in
    let block = c.in_ok-block.block in
    let inside : block < length xs = search rules in
    let held : slice_get xs block ≡ Some c.index-blocks-block.result = slice_get_read xs (length xs) block c.index-blocks-block.result refl inside c.index-blocks-block.is in
    search rules
