-- The checker accepts what the split answers, and with it every cheapest side that fits and every greatest flow, with that price and no other. Assumes nothing.
-- `Bytes l` says that the numbers of the list l are bytes.
use Rattle.std.specs.Prelude.{◌≡◌, ℕ, ◌≤◌, ◌↔◌, List, length, ℤ, Ok}
use mathlib.Core.Path.{sym, subst}
use native.Mathlib.Omega.{arith}
use Rattle.line.specs.Card.{Side, price, Separates, Cheapest}
use Rattle.line.proofs.Duality.{Valid}
use Rattle.book.specs.Format.{modules, pins}
use Rattle.book.specs.Cards.{card_of, nets_of}
use Rattle.book.proofs.CardLaws.{card_valid}
use Rattle.side.specs.Sides.{side_of, bytes_for, Bytes}
use Rattle.side.specs.Given.{Fits}
use Rattle.audit.specs.Rules.{needed}
use Rattle.audit.specs.Checker.{checked_of}
use Rattle.audit.specs.Certificate.{Certified, Greatest}
use Rattle.audit.proofs.Certificates.{certified_all, one_price}
use Rattle.audit.proofs.Answers.{accepted_tells, accepts_checked, accepted_cheapest}
use Rattle.split.specs.Solved.{Row}
use Rattle.split.specs.Splits.{Buffers, Split}
use Rattle.split.specs.Verdicts.{Told}
use Rattle.split.proofs.Answers.{split_tells}
use Rattle.split.proofs.Least.{near_separates, far_separates, near_price, far_price, flow_fair, flow_value}

-- a side that fits and is cheapest, a flow that is long enough and greatest, and the price of a split
pub record AsGood (s l : List ℕ) (xs : List ℤ) (p claim : ℕ) : Type 0 where
  pub fits : Fits s l
  pub cheapest : Cheapest (card_of s) (side_of l)
  pub enough : pins s ≤ length xs
  pub greatest : Greatest (card_of s) (needed s xs)
  pub price_is : claim ≡ p

module _ (s : List ℕ) (old new : Buffers) (p : ℕ) (k : Split s old (Ok p) new) where
  told : Told s p old new
  told = split_tells s old new p k

  valid : Valid (card_of s)
  valid = card_valid s told.sound

  certified : (x : Side) → Separates (card_of s) x → price (nets_of s) x ≡ p → Certified (card_of s) (needed s new.flow) x p
  certified x q e = record { fair = flow_fair s old new p k; separates = q; value_is = flow_value s old new p k; price_is = e }

  near_certified : Certified (card_of s) (needed s new.flow) (side_of new.near) p
  near_certified = certified (side_of new.near) (near_separates s old new p k) (near_price s old new p k)

  -- a row that was written over a long one, and that separates, is accepted at the price
  row_accepted : (before l : List ℕ) → bytes_for (modules s) ≤ length before → Row (modules s) before l → Separates (card_of s) (side_of l) → price (nets_of s) (side_of l) ≡ p →
      Bytes l → checked_of s l new.flow p ≡ Ok tt
  row_accepted before l n r q e h = accepts_checked s l new.flow p h (record {
    presented = record {
      reads = told.reads;
      fits = record { enough = omega (arith, n, r.long); separates = q; spare = r.spare };
      enough = omega (arith, told.room.for_flow, told.holds.long);
    };
    certified = certified (side_of l) q e;
  })

  pub near_accepted : Bytes new.near → checked_of s new.near new.flow p ≡ Ok tt
  near_accepted = row_accepted old.near new.near told.room.for_near told.holds.solved.near_row (near_separates s old new p k) (near_price s old new p k)

  pub far_accepted : Bytes new.far → checked_of s new.far new.flow p ≡ Ok tt
  far_accepted = row_accepted old.far new.far told.room.for_far told.holds.solved.far_row (far_separates s old new p k) (far_price s old new p k)

  -- ---- and whatever else is as good, and nothing else

  module _ (l : List ℕ) (xs : List ℤ) (claim : ℕ) (h : Bytes l) where
    pub good_accepted : AsGood s l xs p claim → checked_of s l xs claim ≡ Ok tt
    good_accepted b = accepts_checked s l xs claim h (record {
      presented = record { reads = told.reads; fits = b.fits; enough = b.enough };
      certified = subst (Certified (card_of s) (needed s xs) (side_of l)) (sym b.price_is)
          (certified_all (card_of s) valid (needed s new.flow) (side_of new.near) p near_certified (needed s xs) b.greatest (side_of l) b.cheapest);
    })

    pub accepted_good : checked_of s l xs claim ≡ Ok tt → AsGood s l xs p claim
    accepted_good e =
        let a = accepted_tells s l xs claim h e in
        let c = accepted_cheapest s l xs claim h e in
        record {
          fits = a.presented.fits;
          cheapest = c.0;
          enough = a.presented.enough;
          greatest = c.2;
          price_is = one_price (card_of s) valid (needed s xs) (needed s new.flow) (side_of l) (side_of new.near) claim p a.certified near_certified;
        }

    pub accepted_exactly : (checked_of s l xs claim ≡ Ok tt) ↔ AsGood s l xs p claim
    accepted_exactly = (accepted_good, good_accepted)
