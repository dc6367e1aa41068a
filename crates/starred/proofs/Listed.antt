-- The listing of the book Bridge, whole, as document 01 prints it: its sides are those of the table's first case. Assumes nothing.
use Rattle.std.specs.Prelude.{Ok}
use mathlib.Core.Path.{◌≡◌, refl}
use mathlib.Core.List.{◌∷◌, []}
use Rattle.line.specs.Card.{touches, crosses, cost, price, area_to}
use Rattle.book.specs.First.{first, lowest}
use Rattle.book.specs.Listed.{listed}
use Rattle.book.specs.Format.{u16, u32, field, entry_is, laid, first_pin}
use Rattle.book.specs.Checks.{counted, bad_module, bad_net, bad_pin, check3, check4, check5, lacks, rest_of, read_of}
use Rattle.book.specs.Cards.{nets_of}
use Rattle.side.specs.Sides.{side_of}
use Rattle.view.specs.Text.{bytes, digits, module_lines, side_text, split_text}
use Rattle.view.specs.Listing.{Lists}
use Rattle.starred.specs.Table.{bridge}
use Rattle.starred.proofs.Passes.{all_hold}

reads : read_of bridge ≡ Ok (record { modules = 4; nets = 3; pins = 6 })
unfolding read_of rest_of lacks check5 check4 check3 bad_pin bad_net bad_module counted first_pin laid entry_is field u32 u16 lowest first
reads = refl

text : bytes "price 1\nnear 2 modules area 5\n0\n1\nfar 2 modules area 5\n0\n1\n" ≡ split_text bridge (price (nets_of bridge) (side_of (0b0011 ∷ []))) (side_of (0b0011 ∷ [])) (side_of (0b0011 ∷ []))
unfolding bytes digits module_lines side_text split_text area_to price cost crosses touches listed first_pin field u32 u16
text = refl

pub bridge_listed : Lists bridge (bytes "price 1\nnear 2 modules area 5\n0\n1\nfar 2 modules area 5\n0\n1\n")
bridge_listed =
    let drawn = all_hold.0.page refl in
    rw reads (record { near = side_of (0b0011 ∷ []); far = side_of (0b0011 ∷ []); near_is = drawn.near_side; far_is = drawn.far_side; text_is = text })
