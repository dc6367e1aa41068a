-- The desk's table: the cases that document 01 marks *, and those tried beside them. This page holds definitions only.
use Rattle.std.specs.Prelude.{false, List, [], ◌∷◌, ◌++◌, ℕ, ◌+◌, ℤ, pos, negsuc, neg_ℤ, Float, length}
use Rattle.std.specs.Float.{nan, fin}
use Rattle.gate.specs.Gates.{dbl}
use Rattle.gate.specs.declared.Gate.{Gate}
use Rattle.gate.specs.declared.Gate.TheVariants.{Open, Share, Bounds}
use Rattle.starred.specs.Cases.{RowNumbers, read, price, move, check, split, walk, counts, costs, changes, accepted, parts, found, stuck, Case, tells, refuses, works_out}

-- ---- The books.

-- Bridge, as document 01 prints it.
abbrev pub bridge : List ℕ
bridge =
    0x03 ∷ 0x00
    ∷ 0x01 ∷ 0x00 ∷ 0x20 ∷ 0x00 ∷ 0x00 ∷ 0x00 ∷ 0x10 ∷ 0x00 ∷ 0x00 ∷ 0x00
    ∷ 0x02 ∷ 0x00 ∷ 0x30 ∷ 0x00 ∷ 0x00 ∷ 0x00 ∷ 0x0C ∷ 0x00 ∷ 0x00 ∷ 0x00
    ∷ 0x03 ∷ 0x00 ∷ 0x3C ∷ 0x00 ∷ 0x00 ∷ 0x00 ∷ 0x0C ∷ 0x00 ∷ 0x00 ∷ 0x00
    ∷ 0x03 ∷ 0x00 ∷ 0x01 ∷ 0x00 ∷ 0x02 ∷ 0x00 ∷ 0x00 ∷ 0x00 ∷ 0x02 ∷ 0x00 ∷ 0x00 ∷ 0x00 ∷ 0x04 ∷ 0x00 ∷ 0x02 ∷ 0x00
    ∷ 0x02 ∷ 0x00 ∷ 0x02 ∷ 0x00 ∷ 0x01 ∷ 0x00 ∷ 0x02 ∷ 0x00 ∷ 0x02 ∷ 0x00 ∷ 0x02 ∷ 0x00
    ∷ 0x00 ∷ 0x00 ∷ 0x01 ∷ 0x00 ∷ 0x01 ∷ 0x00 ∷ 0x02 ∷ 0x00 ∷ 0x02 ∷ 0x00 ∷ 0x03 ∷ 0x00
    ∷ []

-- Numbers below 256, in two bytes each.
abbrev pub u16s : List ℕ → List ℕ
u16s [] = []
u16s (n ∷ ns) = n ∷ 0 ∷ u16s ns

-- The contents of a book of fewer than 256 bytes, by the lengths of its bodies.
abbrev pub contents : ℕ → ℕ → ℕ → List ℕ
contents m n p =
    3 ∷ 0
    ∷ 1 ∷ 0 ∷ 32 ∷ 0 ∷ 0 ∷ 0 ∷ m ∷ 0 ∷ 0 ∷ 0
    ∷ 2 ∷ 0 ∷ (32 + m) ∷ 0 ∷ 0 ∷ 0 ∷ n ∷ 0 ∷ 0 ∷ 0
    ∷ 3 ∷ 0 ∷ (32 + m + n) ∷ 0 ∷ 0 ∷ 0 ∷ p ∷ 0 ∷ 0 ∷ 0
    ∷ []

-- Such a book, by the numbers of its bodies: area and mark of each module, weight and pin count of each net, module of each pin.
abbrev pub lay_out : List ℕ → List ℕ → List ℕ → List ℕ
lay_out ms ns ps = contents (length (u16s ms)) (length (u16s ns)) (length (u16s ps)) ++ u16s ms ++ u16s ns ++ u16s ps

-- Bridge's modules with other nets and pins.
abbrev pub netted : List ℕ → List ℕ → List ℕ
netted ns ps = lay_out (3 ∷ 1 ∷ 2 ∷ 0 ∷ 2 ∷ 0 ∷ 4 ∷ 2 ∷ []) ns ps

-- Chain: Bridge with all weights 1.
abbrev pub chain : List ℕ
chain = netted (1 ∷ 2 ∷ 1 ∷ 2 ∷ 1 ∷ 2 ∷ []) (0 ∷ 1 ∷ 1 ∷ 2 ∷ 2 ∷ 3 ∷ [])

-- Fan: marks 1, 0, 2, areas 1, one net of all three, weight 1.
abbrev pub fan : List ℕ
fan = lay_out (1 ∷ 1 ∷ 1 ∷ 0 ∷ 1 ∷ 2 ∷ []) (1 ∷ 3 ∷ []) (0 ∷ 1 ∷ 2 ∷ [])

-- ---- What the calls are given. A side's bytes are written as bits: module m is the digit m from the right.

-- Below zero.
abbrev pub minus : ℕ → ℤ
minus n = neg_ℤ (pos n)

-- The flow 1, -1, 1, -1, 1, -1, with this first number.
abbrev pub flow_from : ℤ → List ℤ
flow_from z = z ∷ minus 1 ∷ pos 1 ∷ minus 1 ∷ pos 1 ∷ minus 1 ∷ []

-- Bounds low to high.
abbrev pub bounds : ℕ → ℕ → Gate
bounds low high = Bounds (dbl low) (dbl high)

-- The doubles n / 2, n / 4 and n / 8, for an odd n.
abbrev pub halves : ℕ → Float
halves n = fin false n (negsuc 0)

abbrev pub quarters : ℕ → Float
quarters n = fin false n (negsuc 1)

abbrev pub eighths : ℕ → Float
eighths n = fin false n (negsuc 2)

-- A row of the walk: price, area of X, module taken, way.
abbrev pub row : ℕ → ℕ → ℕ → ℕ → RowNumbers
row p a m w = record { price = p; area = a; taken = m; way = w }

-- ---- Marked * in document 01.
abbrev pub starred : List Case
starred =
    -- Bridge: near = far = {0, 1}, price 1; flow 1, -1, 1, -1, 1, -1 is accepted
    tells bridge split (parts 1 (0b0011 ∷ []) (0b0011 ∷ []))
    ∷ tells bridge (check (0b0011 ∷ []) (flow_from (pos 1)) 1) accepted
    -- same flow with claimed price 2: 13; with first number 2: 11 at net 0
    ∷ refuses bridge (check (0b0011 ∷ []) (flow_from (pos 1)) 2) 13 0
    ∷ refuses bridge (check (0b0011 ∷ []) (flow_from (pos 2)) 1) 11 0
    -- Chain: price 1, near {0}, far {0, 1, 2}
    ∷ tells chain split (parts 1 (0b0001 ∷ []) (0b0111 ∷ []))
    -- Fan: price 1, near {0}, far {0, 1}
    ∷ tells fan split (parts 1 (0b001 ∷ []) (0b011 ∷ []))
    -- Bridge, side {0, 1}: moving module 1 answers 1; side {0}: moving it answers -1
    ∷ tells bridge (move (0b0011 ∷ []) 1) (changes (pos 1))
    ∷ tells bridge (move (0b0001 ∷ []) 1) (changes (minus 1))
    -- Chain, bounds 5 to 7: two rounds, {0, 1}, price 1
    ∷ tells chain (walk (bounds 5 7)) (found 1 2 (row 1 3 1 1 ∷ row 1 5 65535 0 ∷ []) (0b0011 ∷ []))
    -- share 0.5, 0.25: low 4.125, high 6.875, same side
    ∷ works_out chain (Share (halves 1) (quarters 1)) (eighths 33) (eighths 55)
    ∷ tells chain (walk (Share (halves 1) (quarters 1))) (found 1 2 (row 1 3 1 1 ∷ row 1 5 65535 0 ∷ []) (0b0011 ∷ []))
    -- Chain, bounds 6 to 6: rows of area 3, 5, 7, then 14
    ∷ tells chain (walk (bounds 6 6)) (stuck 3 (row 1 3 1 1 ∷ row 1 5 2 1 ∷ row 1 7 65535 3 ∷ []))
    -- Bridge, bounds 3 to 4: two rounds, {0}, price 2
    ∷ tells bridge (walk (bounds 3 4)) (found 2 2 (row 1 5 1 2 ∷ row 2 3 65535 0 ∷ []) (0b0001 ∷ []))
    ∷ []

-- ---- Tried beside them.
abbrev pub beside : List Case
beside =
    -- the reader: Bridge; no bytes; one byte after the last pin; pin 3 does not rise in its net; area 0 of module 1, also when a pin is bad
    tells bridge read (counts 4 3 6)
    ∷ refuses [] read 1 0
    ∷ refuses (bridge ++ (0 ∷ [])) read 1 0
    ∷ refuses (netted (2 ∷ 2 ∷ 1 ∷ 2 ∷ 2 ∷ 2 ∷ []) (0 ∷ 1 ∷ 1 ∷ 1 ∷ 2 ∷ 4 ∷ [])) read 5 3
    ∷ refuses (lay_out (1 ∷ 1 ∷ 0 ∷ 0 ∷ 1 ∷ 2 ∷ []) (1 ∷ 2 ∷ []) (0 ∷ 3 ∷ [])) read 3 1
    -- prices: Fan's one net counts once on either side; what lies beyond the needed bytes isn't read
    ∷ tells bridge (price (0b0011 ∷ [])) (costs 1)
    ∷ tells bridge (price (0b0001 ∷ [])) (costs 2)
    ∷ tells fan (price (0b001 ∷ [])) (costs 1)
    ∷ tells fan (price (0b011 ∷ [])) (costs 1)
    ∷ tells bridge (price (0b0011 ∷ 255 ∷ 0 ∷ [])) (costs 1)
    -- a side that lacks the meter, holds the maker, has a spare bit set, is short
    ∷ refuses bridge (price (0b0010 ∷ [])) 9 0
    ∷ refuses bridge (price (0b1001 ∷ [])) 9 0
    ∷ refuses bridge (price (0b10011 ∷ [])) 9 0
    ∷ refuses bridge (price []) 8 0
    ∷ refuses [] (price (0b0011 ∷ [])) 1 0
    -- moves
    ∷ tells bridge (move (0b0011 ∷ []) 2) (changes (pos 1))
    ∷ tells bridge (move (0b0011 ∷ 255 ∷ 0 ∷ []) 1) (changes (pos 1))
    ∷ tells fan (move (0b001 ∷ []) 1) (changes (pos 0))
    ∷ tells fan (move (0b011 ∷ []) 1) (changes (pos 0))
    -- of a meter module, of a maker module, of no module; 9 comes before 10, and 8 before both
    ∷ refuses bridge (move (0b0011 ∷ []) 0) 10 0
    ∷ refuses bridge (move (0b0011 ∷ []) 3) 10 0
    ∷ refuses bridge (move (0b0011 ∷ []) 4) 10 0
    ∷ refuses bridge (move (0b0011 ∷ []) 4294967295) 10 0
    ∷ refuses bridge (move (0b0010 ∷ []) 0) 9 0
    ∷ refuses bridge (move (0b1001 ∷ []) 4) 9 0
    ∷ refuses bridge (move (0b10011 ∷ []) 1) 9 0
    ∷ refuses bridge (move [] 4) 8 0
    ∷ refuses [] (move (0b0011 ∷ []) 1) 1 0
    -- the checker: a free module makes flow from nothing; net 1 above its weight; both rules broken
    ∷ refuses bridge (check (0b0011 ∷ []) (pos 1 ∷ minus 1 ∷ pos 0 ∷ pos 0 ∷ pos 0 ∷ pos 0 ∷ []) 1) 12 1
    ∷ refuses bridge (check (0b0011 ∷ []) (pos 2 ∷ minus 2 ∷ pos 2 ∷ minus 2 ∷ pos 2 ∷ minus 2 ∷ []) 2) 11 1
    ∷ refuses bridge (check (0b0011 ∷ []) (pos 1 ∷ minus 1 ∷ pos 0 ∷ pos 0 ∷ pos 3 ∷ minus 3 ∷ []) 1) 11 2
    -- a value of 0, and one below zero
    ∷ refuses bridge (check (0b0011 ∷ []) (pos 0 ∷ pos 0 ∷ pos 0 ∷ pos 0 ∷ pos 0 ∷ pos 0 ∷ []) 0) 13 0
    ∷ refuses bridge (check (0b0011 ∷ []) (minus 1 ∷ pos 1 ∷ minus 1 ∷ pos 1 ∷ minus 1 ∷ pos 1 ∷ []) 1) 13 0
    -- the largest numbers of 32 bits
    ∷ refuses bridge (check (0b0011 ∷ []) (pos 2147483647 ∷ minus 2147483648 ∷ pos 2147483647 ∷ minus 2147483647 ∷ pos 0 ∷ pos 0 ∷ []) 1) 11 0
    -- a dear side; one without the meter; a spare bit; a short side; a short flow, whatever the side; a longer flow
    ∷ refuses bridge (check (0b0001 ∷ []) (flow_from (pos 1)) 1) 13 0
    ∷ refuses bridge (check (0b0010 ∷ []) (flow_from (pos 1)) 1) 9 0
    ∷ refuses bridge (check (0b10011 ∷ []) (flow_from (pos 1)) 1) 9 0
    ∷ refuses bridge (check [] (flow_from (pos 1)) 1) 8 0
    ∷ refuses bridge (check (0b0010 ∷ []) (pos 1 ∷ []) 1) 8 0
    ∷ tells bridge (check (0b0011 ∷ []) (flow_from (pos 1) ++ (pos 9 ∷ [])) 1) accepted
    -- no nets: price 0, near is the meter modules, far is all but maker modules
    ∷ tells (netted [] []) split (parts 0 (0b0001 ∷ []) (0b0111 ∷ []))
    ∷ refuses [] split 1 0
    -- walks: the open gate; module 1 on no net; no nets; one net of all modules; only the last net is cut
    ∷ tells chain (walk Open) (found 1 1 (row 1 3 65535 0 ∷ []) (0b0001 ∷ []))
    ∷ tells (netted (1 ∷ 2 ∷ 1 ∷ 2 ∷ []) (0 ∷ 2 ∷ 2 ∷ 3 ∷ [])) (walk (bounds 5 5)) (found 1 2 (row 1 3 2 1 ∷ row 1 5 65535 0 ∷ []) (0b0101 ∷ []))
    ∷ tells (netted [] []) (walk (bounds 5 5)) (found 0 2 (row 0 3 1 1 ∷ row 0 5 65535 0 ∷ []) (0b0011 ∷ []))
    ∷ tells (netted (1 ∷ 4 ∷ []) (0 ∷ 1 ∷ 2 ∷ 3 ∷ [])) (walk (bounds 5 5)) (found 1 2 (row 1 3 1 1 ∷ row 1 5 65535 0 ∷ []) (0b0011 ∷ []))
    ∷ tells (netted (3 ∷ 2 ∷ 3 ∷ 2 ∷ 1 ∷ 2 ∷ []) (0 ∷ 1 ∷ 0 ∷ 2 ∷ 2 ∷ 3 ∷ [])) (walk (bounds 3 5)) (found 3 2 (row 1 7 2 2 ∷ row 3 5 65535 0 ∷ []) (0b0011 ∷ []))
    -- a bad gate, after the book
    ∷ refuses chain (walk (Share nan (quarters 1))) 7 0
    ∷ refuses [] (walk (Share nan (quarters 1))) 1 0
    ∷ []

-- The whole table.
abbrev pub table : List Case
table = starred ++ beside
