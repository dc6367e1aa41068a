-- `view::listing::put_side` meets its contract: a line with the count and the area, then the modules; no text of a side is longer than its room. Assumes nothing.
use Rattle.side.specs.Sides.{side_of}
use Rattle.view.specs.Text.{bytes}
use Rattle.view.proofs.Lines.{side-text}
use Rattle.view.proofs.Rooms.{header_room, lines_room}
use Rattle.view.proofs.Puts.{put_as, put_then}
use native.Mathlib.Omega.{arith}
use Rattle.side.proofs.Sides.{sound_netlist}
use Rattle.view.proofs.listing.put_side.Goals as goal

pub put_pair-then-requires : goal.put_pair-then-requires
unfolding bytes
put_pair-then-requires c =
    let p = c.requires in
    let n = c.count-count in
    let k = c.area-area in
    omega (arith, p.2, header_room c.args.name.now n.result k.result p.1 n.type_inv k.type_inv)

pub put_modules-requires : goal.put_modules-requires
unfolding bytes
put_modules-requires c =
    let a = c.args in
    let p = c.requires in
    let n = c.count-count in
    let k = c.area-area in
    let m = c.modules in
    let u = c.put_pair-then in
    let few = (sound_netlist a.side.netlist).few_modules in
    let head = header_room a.name.now n.result k.result p.1 n.type_inv k.type_inv in
    let lines = lines_room (side_of a.side.bits.now) m.result (omega (arith, m.ensures, few)) in
    (omega (arith, m.ensures, a.side.enough), omega (arith, p.2, head, lines, few, m.ensures, u.ensures.after, u.auto.out))

pub returns : goal.returns
unfolding bytes
returns c =
    let a = c.args in
    let p = c.requires in
    let n = c.count-count in
    let k = c.area-area in
    let m = c.modules in
    let u = c.put_pair-then.ensures in
    let v = c.put_modules.ensures in
    let x = side_of a.side.bits.now in
    let few = (sound_netlist a.side.netlist).few_modules in
    let head = header_room a.name.now n.result k.result p.1 n.type_inv k.type_inv in
    let lines = lines_room x m.result (omega (arith, m.ensures, few)) in
    let text = side-text a.name.now a.side.netlist.bytes.now x n.result k.result m.result n.ensures k.ensures.0 m.ensures in
    (put_as text (put_then (omega (arith, p.2, head, u.after)) u v), omega (arith, head, lines, few, m.ensures, u.after, v.after))
