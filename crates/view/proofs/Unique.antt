-- A book has one listing (`lists_one`), and any two results that a call's statement allows are one (`list_one`, `view_one`). Assumes nothing.
use Rattle.std.specs.Prelude.{Option, Some, None, Result, Ok, Err}
use Rattle.book.specs.declared.Book.{Book}
use Rattle.book.specs.declared.Refusal.{Refusal}
use Rattle.book.specs.declared.Cursor.{Cursor}
use Prim.Native.Nat.{ℕ, zero, suc, ◌≤◌}
use mathlib.Core.Path.{◌≡◌, refl, sym, ap, ap₂, ◌∙◌}
use mathlib.Core.Bool.{Bool, true, false, cond}
use mathlib.Core.List.{List, [], ◌++◌}
use native.Mathlib.Omega.{arith}
use lib.Dec.{ltb}
use lib.ListN.{length, drop, length-append}
use Rattle.line.specs.Card.{Side, price, Alike}
use Rattle.line.proofs.Area.{area_to_same}
use Rattle.line.proofs.Cheap.{near_one, far_one}
use Rattle.book.specs.Format.{modules, area}
use Rattle.book.specs.Checks.{read_of}
use Rattle.book.specs.Cards.{card_of, nets_of}
use Rattle.book.proofs.Sound.{sound}
use Rattle.side.proofs.Alike.{alike_price}
use Rattle.view.specs.Text.{bytes, decimal, module_lines, pair_line, side_text, split_text}
use Rattle.view.specs.Listing.{largest_book, room, Lists, ListsBy, Prints, PrintsIf, Writes, WritesIf, Seen}
use Rattle.view.proofs.Lines.{side-text}

-- ---- the text

module _ (x y : Side) where
  lines_same : (n : ℕ) → Alike n x y → module_lines x n ≡ module_lines y n
  unfolding module_lines
  lines_same zero e = refl
  lines_same (suc n) e = ap₂ (λ (t : List ℕ) (b : Bool). t ++ cond b (decimal n ++ bytes "\n") []) (lines_same n (λ m l. e m (omega arith))) (e n (omega arith))

  side_same : (name s : List ℕ) → Alike (modules s) x y → side_text name s x ≡ side_text name s y
  side_same name s e =
      sym (side-text name s x _ _ _ refl refl refl)
      ∙ (λ i. pair_line name (area_to_same (λ m. 1) x y (modules s) e i) (bytes " modules area ") (area_to_same (area s) x y (modules s) e i) ++ lines_same (modules s) e i)
      ∙ side-text name s y _ _ _ refl refl refl

split_same : (s : List ℕ) (p q : ℕ) (near far near' far' : Side) → p ≡ q → Alike (modules s) near near' → Alike (modules s) far far' → split_text s p near far ≡ split_text s q near' far'
unfolding split_text
split_same s p q near far near' far' e n f =
    λ i. bytes "price " ++ decimal (e i) ++ bytes "\n" ++ side_same near near' (bytes "near ") s n i ++ side_same far far' (bytes "far ") s f i

-- the near side and the far side are unique, and so is the text
pub lists_one : (s text other : List ℕ) → Lists s text → Lists s other → text ≡ other
lists_one s text other = go (read_of s) refl
  where
    go : (r : Result Book Refusal) → read_of s ≡ r → ListsBy r s text → ListsBy r s other → text ≡ other
    go (Err why) e a b = a ∙ sym b
    go (Ok k) e a b =
        let n = near_one (card_of s) a.near b.near a.near_is b.near_is in
        let f = far_one (card_of s) a.far b.far a.far_is b.far_is in
        let p : price (nets_of s) a.near ≡ price (nets_of s) b.near = alike_price s a.near b.near n (sound s k e) in
        a.text_is ∙ split_same s _ _ a.near a.far b.near b.far p n f ∙ sym b.text_is

pub prints_one : (s text other : List ℕ) → Prints s text → Prints s other → text ≡ other
prints_one s text other = go (ltb largest_book (length s))
  where
    go : (b : Bool) → PrintsIf b s text → PrintsIf b s other → text ≡ other
    go true a b = a ∙ sym b
    go false a b = lists_one s text other a b

seen_one : (p : Option (ℕ × Cursor)) (s : List ℕ) (at : ℕ) (text other : List ℕ) → Seen p s at text → Seen p s at other → text ≡ other
seen_one (Some (n, c)) s at text other a b = a ∙ sym b
seen_one None s at text other a b = lists_one (drop at s) text other a b

-- ---- the call

writes_one : {P : List ℕ → Type 0} → ((t u : List ℕ) → P t → P u → t ≡ u) → (old : List ℕ) (r q : Option ℕ) (new fresh : List ℕ) → Writes P old r new → Writes P old q fresh → (r ≡ q) × (new ≡ fresh)
writes_one {P} one old r q new fresh = go (ltb (length old) room)
  where
    go : (b : Bool) → WritesIf b P old r new → WritesIf b P old q fresh → (r ≡ q) × (new ≡ fresh)
    go true a b = (a.answer ∙ sym b.answer, a.kept ∙ sym b.kept)
    go false a b =
        let e = one a.text b.text a.prints b.prints in
        (a.answer ∙ ap (λ (t : List ℕ). Some (length t)) e ∙ sym b.answer, a.bytes ∙ ap (λ (t : List ℕ). t ++ drop (length t) old) e ∙ sym b.bytes)

-- `view::list`
pub list_one : (s old : List ℕ) (r q : Option ℕ) (new fresh : List ℕ) → Writes (Prints s) old r new → Writes (Prints s) old q fresh → (r ≡ q) × (new ≡ fresh)
list_one s = writes_one (prints_one s)

-- `view::View::list`
pub view_one : (p : Option (ℕ × Cursor)) (s : List ℕ) (at : ℕ) (old : List ℕ) (r q : Option ℕ) (new fresh : List ℕ) → Writes (Seen p s at) old r new → Writes (Seen p s at) old q fresh → (r ≡ q) × (new ≡ fresh)
view_one p s at = writes_one (seen_one p s at)

-- the text lies within the lent bytes
pub list_within : (s old : List ℕ) (k : ℕ) (r : Option ℕ) (new : List ℕ) → r ≡ Some k → Writes (Prints s) old r new → k ≤ length new
list_within s old k r new e = go (ltb (length old) room)
  where
    go : (b : Bool) → WritesIf b (Prints s) old r new → k ≤ length new
    go true a = let f = a.answer in let z : ◌≡◌ {A = ℕ} 0 1 = cc in absurd (omega arith)
    go false a =
        let f = a.answer in
        let u : k ≡ length a.text = cc in
        omega (arith, ap length a.bytes, length-append a.text (drop (length a.text) old), u)
