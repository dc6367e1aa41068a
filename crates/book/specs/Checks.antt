-- The reader's checks, each as its row of document 01's table, and the answer: the first check that finds a fault names it. Definitions only.
use Rattle.std.specs.Prelude.{ℕ, ◌+◌, ◌-◌, Bool, not, ◌&&◌, ◌||◌, List, leb, ltb, eqb, Option, Some, None, Result, Ok, Err}
use Rattle.book.specs.declared.Book.{Book}
use Rattle.book.specs.declared.Refusal.{Refusal}
use Rattle.book.specs.declared.Refusal.TheVariants.{Layout, Counts, Module, Net, Pin, Marks}
use Rattle.book.specs.First.{first, lowest, find_if, or_else, from, is_nothing}
use Rattle.book.specs.Format.{laid, modules, nets, pins, area, mark, weight, pin_count, pin, first_pin}

-- The largest numbers.
abbrev pub least_modules : ℕ
least_modules = 2

abbrev pub most_modules : ℕ
most_modules = 256

abbrev pub most_nets : ℕ
most_nets = 512

abbrev pub most_pins : ℕ
most_pins = 2048

-- 1: the contents, starts, lengths or end differ from the layout, or the book is cut short.
abbrev pub check1 : List ℕ → Option ℕ
check1 s = find_if (not (laid s)) 0

-- 2: a count of modules, nets or pins is outside the numbers above.
unfoldable pub counted : List ℕ → Bool
counted s = leb least_modules (modules s) && leb (modules s) most_modules && leb (nets s) most_nets && leb (pins s) most_pins

abbrev pub check2 : List ℕ → Option ℕ
check2 s = find_if (not (counted s)) 0

-- 3: an area is 0 or a mark is above 2; the place is the module.
unfoldable pub bad_module : List ℕ → ℕ → Bool
bad_module s m = eqb (area s m) 0 || ltb 2 (mark s m)

unfoldable pub check3 : List ℕ → Option ℕ
check3 s = lowest (bad_module s) (modules s)

-- 4: a weight or pin count is 0, and the place is the net; failing that, the pin counts don't add up to the pins present, and the place is the number of nets.
unfoldable pub bad_net : List ℕ → ℕ → Bool
bad_net s n = eqb (weight s n) 0 || eqb (pin_count s n) 0

unfoldable pub check4 : List ℕ → Option ℕ
check4 s = or_else (lowest (bad_net s) (nets s)) (find_if (not (eqb (first_pin s (nets s)) (pins s))) (nets s))

-- 5: a pin names no module, or doesn't rise within its net; the place is the index in the pin body. Here the pin at p, which is pin j of its net.
unfoldable pub bad_pin : List ℕ → ℕ → ℕ → Bool
bad_pin s p j = leb (modules s) (pin s p) || (ltb 0 j && leb (pin s p) (pin s (p - 1)))

-- Pin j of net n is bad.
abbrev pub bad_pin_of : List ℕ → ℕ → ℕ → Bool
bad_pin_of s n j = bad_pin s (first_pin s n + j) j

-- The first bad pin of net n, as an index in the pin body.
abbrev pub bad_pins : List ℕ → ℕ → Option ℕ
bad_pins s n = from (first_pin s n) (lowest (bad_pin_of s n) (pin_count s n))

unfoldable pub check5 : List ℕ → Option ℕ
check5 s = first (bad_pins s) (nets s)

-- 6: no meter module or no maker module. Here no module has this mark.
unfoldable pub lacks : List ℕ → ℕ → Bool
lacks s k = is_nothing (lowest (λ m. eqb (mark s m) k) (modules s))

abbrev pub check6 : List ℕ → Option ℕ
check6 s = find_if (lacks s 1 || lacks s 2) 0

-- A check that found a fault refuses with its place; failing that, the rest decides.
abbrev pub refuse : Option ℕ → (ℕ → Refusal) → Result Book Refusal → Result Book Refusal
refuse (Some place) why rest = Err (why place)
refuse None why rest = rest

-- The counts that the reader answers.
abbrev pub book_of : List ℕ → Book
book_of s = record { modules = modules s; nets = nets s; pins = pins s }

-- Checks 2 to 6 in rising number, each over the whole book before the next.
unfoldable pub rest_of : List ℕ → Result Book Refusal
rest_of s =
    refuse (check2 s) (λ place. Counts)
    (refuse (check3 s) Module
    (refuse (check4 s) Net
    (refuse (check5 s) Pin
    (refuse (check6 s) (λ place. Marks) (Ok (book_of s))))))

-- Checks 1 to 6: the answer, whatever the bytes.
unfoldable pub read_of : List ℕ → Result Book Refusal
read_of s = refuse (check1 s) (λ place. Layout) (rest_of s)
