-- What calls tell, compared: a test for the numbers of each answer, and for what is written. Assumes nothing.
use mathlib.Core.Path.{refl}
use Prim.Native.Nat.{ℕ}
use Rattle.book.specs.Answer as reader
use Rattle.side.specs.Prices as prices
use Rattle.side.specs.Moves as moves
use Rattle.audit.specs.Checker as checker
use Rattle.split.specs.Splits as splits
use Rattle.gate.specs.declared.Band.{Band}
use Rattle.walk.specs.Walk.{Answer}
use Rattle.starred.specs.Cases.{RowNumbers, Call, read, price, move, check, split, walk, Parts, Rounds, Told}
use Rattle.starred.proofs.Tests.{Test, number, integer, pair, list, by, float}

abbrev two : Test (ℕ × ℕ)
two = pair number number

abbrev four : Test ((ℕ × ℕ) × (ℕ × ℕ))
four = pair two two

abbrev read_numbers : Test reader.Numbers
read_numbers =
    by (λ n. (n.number, ((n.place, n.modules), (n.nets, n.pins)))) (λ p. record { number = p.0; place = p.1.0.0; modules = p.1.0.1; nets = p.1.1.0; pins = p.1.1.1 }) (λ n. refl)
    (pair number four)

abbrev price_numbers : Test prices.Numbers
price_numbers = by (λ n. (n.number, (n.place, n.price))) (λ p. record { number = p.0; place = p.1.0; price = p.1.1 }) (λ n. refl) (pair number two)

abbrev move_numbers : Test moves.Numbers
move_numbers = by (λ n. ((n.number, n.place), n.change)) (λ p. record { number = p.0.0; place = p.0.1; change = p.1 }) (λ n. refl) (pair two integer)

abbrev check_numbers : Test checker.Numbers
check_numbers = by (λ n. (n.number, n.place)) (λ p. record { number = p.0; place = p.1 }) (λ n. refl) two

abbrev split_numbers : Test splits.Numbers
split_numbers = by (λ n. (n.number, (n.place, n.price))) (λ p. record { number = p.0; place = p.1.0; price = p.1.1 }) (λ n. refl) (pair number two)

abbrev walk_numbers : Test Answer
walk_numbers = by (λ n. ((n.number, n.place), (n.price, n.rounds))) (λ p. record { number = p.0.0; place = p.0.1; price = p.1.0; rounds = p.1.1 }) (λ n. refl) four

abbrev walk_row : Test RowNumbers
walk_row = by (λ r. ((r.price, r.area), (r.taken, r.way))) (λ p. record { price = p.0.0; area = p.0.1; taken = p.1.0; way = p.1.1 }) (λ r. refl) four

abbrev split_parts : Test Parts
split_parts = by (λ t. (t.numbers, (t.near, t.far))) (λ p. record { numbers = p.0; near = p.1.0; far = p.1.1 }) (λ t. refl) (pair split_numbers (pair (list number) (list number)))

abbrev walk_rounds : Test Rounds
walk_rounds = by (λ t. (t.numbers, (t.rows, t.side))) (λ p. record { numbers = p.0; rows = p.1.0; side = p.1.1 }) (λ t. refl) (pair walk_numbers (pair (list walk_row) (list number)))

abbrev pub worked_out : Test Band
worked_out = by (λ b. (b.low, b.high)) (λ p. record { low = p.0; high = p.1 }) (λ b. refl) (pair float float)

abbrev pub told : (k : Call) → Test (Told k)
told read = read_numbers
told (price l) = price_numbers
told (move l m) = move_numbers
told (check l xs p) = check_numbers
told split = split_parts
told (walk g) = walk_rounds
