-- Any two results that an exported function's statement allows are one: the eight numbers, and every lent byte but the numbers of a split's flow. Assumes nothing.
use Rattle.std.specs.Prelude.{Result}
use Rattle.book.specs.declared.Refusal.{Refusal}
use Prim.Native.Nat.{ℕ}
use mathlib.Core.Path.{◌≡◌, sym, ap, ◌∙◌}
use mathlib.Core.List.{List}
use lib.IntN.{ℤ}
use Rattle.side.specs.Sides.{Bytes}
use Rattle.split.specs.Splits.{Buffers, numbers_of}
use Rattle.split.proofs.Unique.{One, split_one}
use Rattle.gate.specs.declared.Gate.{Gate}
use Rattle.walk.specs.Call.{Left}
use Rattle.walk.proofs.Call.{walked_one}
use Rattle.desk.specs.Answers.{read_told, price_told, move_told, check_told, split_places, walk_places, SplitTold, WalkTold}

-- ---- the calls that only read

pub read_told_one : (s : List ℕ) (z w : List ℤ) → z ≡ read_told s → w ≡ read_told s → z ≡ w
read_told_one s z w h k = h ∙ sym k

pub price_told_one : (s l : List ℕ) (z w : List ℤ) → z ≡ price_told s l → w ≡ price_told s l → z ≡ w
price_told_one s l z w h k = h ∙ sym k

pub move_told_one : (s l : List ℕ) (m : ℕ) (z w : List ℤ) → z ≡ move_told s l m → w ≡ move_told s l m → z ≡ w
move_told_one s l m z w h k = h ∙ sym k

pub check_told_one : (s l : List ℕ) (xs : List ℤ) (claim : ℕ) (z w : List ℤ) → z ≡ check_told s l xs claim → w ≡ check_told s l xs claim → z ≡ w
check_told_one s l xs claim z w h k = h ∙ sym k

-- ---- the split: one near side and one far side with their tails, and flows of one length, one tail and one value

pub split_told_one : (s : List ℕ) (old new fresh : Buffers) (z w : List ℤ) (h : SplitTold s old new z) (k : SplitTold s old fresh w) →
    Bytes new.near → Bytes new.far → Bytes fresh.near → Bytes fresh.far → (z ≡ w) × One s h.answer k.answer new fresh
split_told_one s old new fresh z w h k a b c d =
    let one = split_one s old new fresh h.answer k.answer h.split k.split a b c d in
    (h.numbers ∙ ap (λ (r : Result ℕ Refusal). split_places (numbers_of r)) one.answer ∙ sym k.numbers, one)

-- ---- the walk

pub walk_told_one : (s : List ℕ) (g : Gate) (side₀ rows₀ side rows other more : List ℕ) (z w : List ℤ) →
    WalkTold s g side₀ rows₀ side rows z → WalkTold s g side₀ rows₀ other more w → (z ≡ w) × (side ≡ other) × (rows ≡ more)
walk_told_one s g side₀ rows₀ side rows other more z w h k =
    let one = walked_one s g side₀ rows₀ _ _ h.walked k.walked in (
      h.numbers ∙ ap (λ (a : Left). walk_places a.answer) one ∙ sym k.numbers,
      ap (λ (a : Left). a.side) one,
      ap (λ (a : Left). a.rows) one,
    )
