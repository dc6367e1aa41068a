use Rattle.split.proofs.Held.{room_of}
use Rattle.split.proofs.Loads.{sound_netlist}
use mathlib.Core.Path.{sym, ◌∙◌}
use Rattle.split.proofs.split_good.Goals as goal

pub split_sound-requires : goal.split_sound-requires
split_sound-requires c = room_of c.args.netlist.bytes.now _ (sound_netlist c.args.netlist) (sym c.is_short.ensures ∙ c.if-is_short.false)
