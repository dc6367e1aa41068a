-- The book of a card: its contents, and a record for each module, net and pin.
use Rattle.std.specs.Prelude.{ℕ, ◌+◌, ◌-◌, ◌^◌, List, ◌++◌, length, take, drop, replicate, fold, nat_le, min, if◌then◌else◌}
use Rattle.std.specs.List.{flat_map}
use Rattle.trial.specs.declared.card.Module.{Module}
use Rattle.trial.specs.declared.card.Net.{Net}
use Rattle.trial.specs.declared.card.Put.{Put}
use Rattle.book.specs.Marks.{number_of}
use Rattle.trial.specs.Bytes.{two_bytes, contents}

abbrev pub module_records : List Module → List ℕ
module_records ms = flat_map (λ (m : Module). two_bytes m.0 ++ two_bytes (number_of m.1)) ms

abbrev pub pin_records : List ℕ → List ℕ
pin_records ps = flat_map two_bytes ps

-- a weight and a count of pins, at most what two bytes hold
abbrev pub net_records : List Net → List ℕ
net_records ns = flat_map (λ (n : Net). two_bytes n.0 ++ two_bytes (min (length n.1.now) (2 ^ 16 - 1))) ns

abbrev pub all_pins : List Net → List ℕ
all_pins ns = flat_map (λ (n : Net). pin_records n.1.now) ns

abbrev pub book_of : List Module → List Net → List ℕ
book_of ms ns =
    contents (length (module_records ms)) (length (net_records ns)) (length (all_pins ns))
    ++ module_records ms
    ++ net_records ns
    ++ all_pins ns

-- a number put over the two bytes from an offset on, where both are there
abbrev pub put_over : List ℕ → Put → List ℕ
put_over b x =
    if nat_le (x.0 + 2) (length b) then take x.0 b ++ two_bytes x.1 ++ drop (x.0 + 2) b else b

-- numbers put over a book, which is then cut to a length or filled up with zeros
abbrev pub edited_of : List ℕ → List Put → ℕ → List ℕ
edited_of b xs size =
    let whole = fold put_over b xs in take size whole ++ replicate (size - length whole) 0
