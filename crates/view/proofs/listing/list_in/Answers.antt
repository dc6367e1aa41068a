-- `view::listing::list_in` meets its contract: what the split answers is the listing. Assumes nothing.
use Rattle.view.proofs.Splits.{split_sound, rows_split, listed_refused}
use Rattle.view.proofs.listing.list_in.Goals as goal

pub invariant_of-netlist : goal.invariant_of-netlist
invariant_of-netlist c = record { sound = ∣ split_sound c.args.book.now _ _ _ c.split.ensures _ c.in-Ok.is ∣₁ }

pub put_split-requires : goal.put_split-requires
put_split-requires c =
    (rows_split c.args.book.now _ _ _ c.split.ensures _ c.in-Ok.is, c.requires.1)

pub returns-in-Err : goal.returns-in-Err
returns-in-Err c =
    record { text = _; lists = listed_refused c.args.book.now _ _ _ c.split.ensures _ c.in-Err.is c.requires.0; put = c.put_refusal.ensures }
