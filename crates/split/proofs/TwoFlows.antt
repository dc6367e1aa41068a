-- A book with two splits: their answer and their sides are one, and their flows are two fair ones of one value. Assumes nothing.
-- From meter 0 there are two ways on, by module 1 and by module 2, and both end in the one net to maker 3; each net has weight 1, so the price is 1.
use Rattle.std.specs.Prelude.{◌≡◌, ℕ, zero, suc, ◌<◌, Bool, true, false, ◌&&◌, T, leb, List, [], ◌∷◌, get_or, replicate, ℤ, pos, negsuc, Ok}
use mathlib.Core.Path.{refl, ap, ◌∙◌}
use native.Mathlib.Omega.{arith}
use lib.Dec.{leb→le, lit≤}
use Rattle.line.specs.Card.{Side, touches, crosses, cost, price, all_pins, Near, Far, Alike, pin}
use Rattle.line.specs.Flow.{Fair, EachNet, total, total_sent, sent, taken, flow_at, value, only}
use Rattle.line.proofs.Bools.{and_l, and_r}
use Rattle.line.proofs.Below.{near_alike, far_alike}
use Rattle.line.proofs.Duality.{Valid}
use Rattle.line.proofs.Trial.{near_by, near_in, far_in, near_tried, far_tried}
use Rattle.book.specs.First.{first, lowest}
use Rattle.book.specs.Listed.{listed}
use Rattle.book.specs.Format.{modules, mark, u16, u32, field, entry_is, laid, first_pin}
use Rattle.book.specs.Checks.{counted, bad_module, bad_net, bad_pin, check3, check4, check5, lacks, rest_of, read_of}
use Rattle.book.specs.Cards.{card_of, nets_of}
use Rattle.book.proofs.CardLaws.{card_valid}
use Rattle.book.proofs.Sound.{sound}
use Rattle.side.specs.Sides.{side_of}
use Rattle.side.proofs.Spares.{test_tells}
use Rattle.flow.specs.Cards.{Small}
use Rattle.split.specs.Solved.{Row, Solved}
use Rattle.split.specs.Splits.{Buffers, buffers, Room, Split}
use Rattle.split.proofs.Answers.{told_split}

abbrev pub diamond : List ℕ
diamond =
    0x03 ∷ 0x00
    ∷ 0x01 ∷ 0x00 ∷ 0x20 ∷ 0x00 ∷ 0x00 ∷ 0x00 ∷ 0x10 ∷ 0x00 ∷ 0x00 ∷ 0x00
    ∷ 0x02 ∷ 0x00 ∷ 0x30 ∷ 0x00 ∷ 0x00 ∷ 0x00 ∷ 0x0C ∷ 0x00 ∷ 0x00 ∷ 0x00
    ∷ 0x03 ∷ 0x00 ∷ 0x3C ∷ 0x00 ∷ 0x00 ∷ 0x00 ∷ 0x0E ∷ 0x00 ∷ 0x00 ∷ 0x00
    ∷ 0x01 ∷ 0x00 ∷ 0x01 ∷ 0x00 ∷ 0x01 ∷ 0x00 ∷ 0x00 ∷ 0x00 ∷ 0x01 ∷ 0x00 ∷ 0x00 ∷ 0x00 ∷ 0x01 ∷ 0x00 ∷ 0x02 ∷ 0x00
    ∷ 0x01 ∷ 0x00 ∷ 0x02 ∷ 0x00 ∷ 0x01 ∷ 0x00 ∷ 0x02 ∷ 0x00 ∷ 0x01 ∷ 0x00 ∷ 0x03 ∷ 0x00
    ∷ 0x00 ∷ 0x00 ∷ 0x01 ∷ 0x00 ∷ 0x00 ∷ 0x00 ∷ 0x02 ∷ 0x00 ∷ 0x01 ∷ 0x00 ∷ 0x02 ∷ 0x00 ∷ 0x03 ∷ 0x00
    ∷ []

diamond_reads : read_of diamond ≡ Ok (record { modules = 4; nets = 3; pins = 7 })
unfolding read_of rest_of lacks check5 check4 check3 bad_pin bad_net bad_module counted first_pin laid entry_is field u32 u16 lowest first
diamond_reads = refl

-- the flow by module 1, and the flow by module 2
abbrev pub by_one : List ℤ
by_one = pos 1 ∷ negsuc 0 ∷ pos 0 ∷ pos 0 ∷ pos 1 ∷ pos 0 ∷ negsuc 0 ∷ []

abbrev pub by_two : List ℤ
by_two = pos 0 ∷ pos 0 ∷ pos 1 ∷ negsuc 0 ∷ pos 0 ∷ pos 1 ∷ negsuc 0 ∷ []

-- the buffers lent, and those that a split with these numbers leaves: both sides are {0, 1, 2}
abbrev pub lent : Buffers
lent = buffers (0 ∷ []) (0 ∷ []) (replicate 7 (pos 0))

abbrev pub left : List ℤ → Buffers
left zs = buffers (7 ∷ []) (7 ∷ []) zs

-- ---- the sides

row : Row (modules diamond) (0 ∷ []) (7 ∷ [])
unfolding u32 u16
row = record { long = refl; spare = test_tells (7 ∷ []) 4 tt; tail = refl }

valid : Valid (card_of diamond)
valid = card_valid diamond (sound diamond _ diamond_reads)

-- a side is {0, 1, 2}, told module by module
alike : (x : Side) → x 0 ≡ true → x 1 ≡ true → x 2 ≡ true → x 3 ≡ false → Alike (modules diamond) x (side_of (7 ∷ []))
unfolding u32 u16
alike x a b c d zero l = a
alike x a b c d (suc zero) l = b
alike x a b c d (suc (suc zero)) l = c
alike x a b c d (suc (suc (suc zero))) l = d
alike x a b c d (suc (suc (suc (suc m)))) l = absurd (omega arith)

near : Near (card_of diamond) (side_of (7 ∷ []))
unfolding near_by pin price cost crosses touches listed first_pin field u32 u16
near = near_alike (card_of diamond) valid (near_in (card_of diamond)) (side_of (7 ∷ [])) (alike (near_in (card_of diamond)) refl refl refl refl) (near_tried (card_of diamond) valid)

far : Far (card_of diamond) (side_of (7 ∷ []))
unfolding near_by pin price cost crosses touches listed first_pin field u32 u16
far = far_alike (card_of diamond) valid (far_in (card_of diamond)) (side_of (7 ∷ [])) (alike (far_in (card_of diamond)) refl refl refl refl) (far_tried (card_of diamond) valid)

costs : 1 ≡ price (nets_of diamond) (side_of (7 ∷ []))
unfolding price cost crosses touches listed first_pin field u32 u16
costs = refl

-- ---- the flows

-- the module rule, told of both free modules
free_rule : (zs : List ℤ) → flow_at (only 1) (all_pins (nets_of diamond)) zs ≡ pos 0 → flow_at (only 2) (all_pins (nets_of diamond)) zs ≡ pos 0 →
    (m : ℕ) → m < modules diamond → mark diamond m ≡ 0 → flow_at (only m) (all_pins (nets_of diamond)) zs ≡ pos 0
unfolding field u32 u16
free_rule zs a b zero l e = absurd (omega arith)
free_rule zs a b (suc zero) l e = a
free_rule zs a b (suc (suc zero)) l e = b
free_rule zs a b (suc (suc (suc zero))) l e = absurd (omega arith)
free_rule zs a b (suc (suc (suc (suc m)))) l e = absurd (omega arith)

one_fair : Fair (card_of diamond) by_one
unfolding EachNet total total_sent flow_at all_pins listed first_pin field u32 u16
one_fair = record {
  nets = (record { zero = refl; fits = lit≤ tt }, (record { zero = refl; fits = lit≤ tt }, (record { zero = refl; fits = lit≤ tt }, tt)));
  modules = free_rule by_one refl refl;
}

two_fair : Fair (card_of diamond) by_two
unfolding EachNet total total_sent flow_at all_pins listed first_pin field u32 u16
two_fair = record {
  nets = (record { zero = refl; fits = lit≤ tt }, (record { zero = refl; fits = lit≤ tt }, (record { zero = refl; fits = lit≤ tt }, tt)));
  modules = free_rule by_two refl refl;
}

one_value : value (card_of diamond) by_one ≡ pos 1
unfolding value flow_at all_pins listed first_pin field u32 u16
one_value = refl

two_value : value (card_of diamond) by_two ≡ pos 1
unfolding value flow_at all_pins listed first_pin field u32 u16
two_value = refl

-- every number is within a weight of 0
abbrev all_small : List ℤ → Bool
all_small [] = true
all_small (z ∷ zs) = leb (sent z) 65535 && (leb (taken z) 65535 && all_small zs)

small : (zs : List ℤ) → T (all_small zs) → (i : ℕ) → Small (get_or zs i (pos 0))
small [] t i = record { sent = lit≤ tt; taken = lit≤ tt }
small (z ∷ zs) t zero =
    let u = and_r (leb (sent z) 65535) (leb (taken z) 65535 && all_small zs) t in
    record {
      sent = leb→le (sent z) 65535 (and_l (leb (sent z) 65535) (leb (taken z) 65535 && all_small zs) t);
      taken = leb→le (taken z) 65535 (and_l (leb (taken z) 65535) (all_small zs) u);
    }
small (z ∷ zs) t (suc i) = small zs (and_r (leb (taken z) 65535) (all_small zs) (and_r (leb (sent z) 65535) (leb (taken z) 65535 && all_small zs) t)) i

-- ---- both are splits, and the flows are two

room : Room diamond (0 ∷ []) (0 ∷ []) (replicate 7 (pos 0))
unfolding u32 u16
room = record { sound = sound diamond _ diamond_reads; for_near = lit≤ tt; for_far = lit≤ tt; for_flow = lit≤ tt }

solved : (zs : List ℤ) → Fair (card_of diamond) zs → value (card_of diamond) zs ≡ pos 1 → T (all_small zs) → Solved (card_of diamond) (0 ∷ []) (0 ∷ []) (7 ∷ []) (7 ∷ []) zs
solved zs f v t = record { near_row = row; far_row = row; near_side = near; far_side = far; fair = f; value = v ∙ ap pos costs; small = λ i l. small zs t i }

pub one_split : Split diamond lent (Ok 1) (left by_one)
unfolding u32 u16
one_split = told_split diamond lent (left by_one) 1 (record {
  reads = (_, diamond_reads);
  sound = room.sound;
  room = room;
  holds = record { solved = solved by_one one_fair one_value tt; long = refl; tail = refl; price_is = costs };
})

pub two_split : Split diamond lent (Ok 1) (left by_two)
unfolding u32 u16
two_split = told_split diamond lent (left by_two) 1 (record {
  reads = (_, diamond_reads);
  sound = room.sound;
  room = room;
  holds = record { solved = solved by_two two_fair two_value tt; long = refl; tail = refl; price_is = costs };
})

pub two_flows : left by_one ≡ left by_two → ⊥
two_flows e = let z : ◌≡◌ {A = ℕ} 1 0 = ap (λ (b : Buffers). sent (get_or b.flow 0 (pos 0))) e in absurd (omega arith)
