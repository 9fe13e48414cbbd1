-- A player as plain values.
use Rattle.player.specs.declared.playing.NamedMachine.{NamedMachine}
use Rattle.player.specs.declared.playing.NamedMachine.TheVariants.{Diagonal, Ripple}
use Rattle.player.specs.declared.playing.Playing.{Playing}
use Rattle.player.specs.declared.player.Player.{Player}
use Rattle.std.specs.Prelude.{Option, box_value, option_map}
use Rattle.lines.specs.Reading.{reading}
use Rattle.machine.specs.Machines.{standing}
use Rattle.player.specs.Playing.{Stands, on_diagonal, on_ripple}
use Rattle.player.specs.Recording.{Held}

abbrev pub machine_as : NamedMachine → Stands
machine_as (Diagonal m) = on_diagonal (standing (box_value m))
machine_as (Ripple m) = on_ripple (standing (box_value m))

abbrev pub stands_as : Playing → Option Stands
stands_as p = option_map machine_as p.machine

abbrev pub held : Player → Held
held p = record { reading = reading p.reader; stands = stands_as p.playing }
