-- `view::listing::put_refusal` meets its contract: one line, with the number and the place. Assumes nothing.
use Rattle.view.proofs.Puts.{put_as}
use Rattle.view.specs.Text.{bytes}
use Rattle.view.proofs.Lines.{refused-text}
use Rattle.view.proofs.Rooms.{refusal_room}
use native.Mathlib.Omega.{arith}
use Rattle.view.proofs.listing.put_refusal.Goals as goal

pub put_pair-requires : goal.put_pair-requires
unfolding bytes
put_pair-requires c =
    let n = c.number-number in
    let p = c.place-place in
    omega (arith, c.requires, refusal_room n.result p.result n.type_inv p.type_inv)

pub returns : goal.returns
unfolding bytes
returns c =
    let n = c.number-number in
    let p = c.place-place in
    put_as (refused-text c.args.why n.result p.result n.ensures p.ensures) c.put_pair.ensures
