-- `walk::choose::Candidates::lowest_free` meets its contract: the first find of the range is the lowest. Assumes nothing.
use Rattle.std.specs.Prelude.{◌≡◌, ℕ, true, false}
use Rattle.std.proofs.lemmas.Iterator.{first_from_Range}
use borrow.Author.Rules.{rules}
use borrow.Author.Tests.{tests}
use Rattle.book.proofs.Firsts.{lowest_by}
use Rattle.walk.specs.Walk.{free_in}
use Rattle.walk.specs.Parts.{half_of, marks_of}
use Rattle.walk.proofs.choose.Candidates.lowest_free.Goals as goal

pub returns : goal.returns
returns c =
    let a = c.args.self.now in
    let t = free_in (marks_of a.marks.now) (half_of a.half) in
    lowest_by t _ _ (first_from_Range _ _ _ _ (λ (m : ℕ). t m ≡ true) (λ (m : ℕ). t m ≡ false) c.find.ensures.ran (λ x q k. search (rules, tests)) (λ x q k. search (rules, tests)))
