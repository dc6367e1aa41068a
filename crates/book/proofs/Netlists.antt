-- What a netlist holds: the facts of a sound book out of the truncation, since a meter and a maker can be looked for. Assumes nothing.
use Rattle.std.specs.Prelude.{◌≡◌, ◌<◌, true, false, Bool, List, ℕ, Result, Ok, Err, is_ok, refl}
use mathlib.Core.Bool.{true≢false}
use mathlib.Core.Path.{sym, ◌∙◌}
use lib.Dec.{eqb}
use borrow.Author.Tests.{eq-eqb}
use Rattle.std.proofs.Math.Logic.{∥∥₁_elim}
use Rattle.std.proofs.Props.{props}
use Rattle.book.specs.declared.Book.{Book}
use Rattle.book.specs.declared.Refusal.{Refusal}
use Rattle.book.specs.declared.netlist.Netlist.{Netlist}
use Rattle.book.specs.Format.{Laid, modules, mark}
use Rattle.book.specs.Checks.{read_of, lacks}
use Rattle.book.specs.Sound.{Sound}
use Rattle.book.proofs.Sound.{sound, has}
use Rattle.book.proofs.Firsts.{lowest_clear}
use Rattle.book.specs.First.{is_nothing}
use Rattle.std.specs.Prelude.{Option, Some, None}

pub reads_as : (r : Result Book Refusal) → is_ok r ≡ true → (b : Book) × (r ≡ Ok b)
reads_as (Ok b) e = (b, refl)
reads_as (Err why) e = absurd (true≢false (sym e))

pub sound_of : (s : List ℕ) → is_ok (read_of s) ≡ true → Sound s
sound_of s e = let g = reads_as (read_of s) e in sound s g.0 g.1

nothing : (r : Option ℕ) → is_nothing r ≡ true → r ≡ None
nothing None e = refl
nothing (Some i) e = absurd (true≢false (sym e))

lacks_none : (s : List ℕ) (k m : ℕ) → m < modules s → mark s m ≡ k → lacks s k ≡ true → ⊥
unfolding lacks
lacks_none s k m l e f =
    let clear = lowest_clear (λ i. eqb (mark s i) k) (modules s) m (nothing _ f) l in
    true≢false (sym (eq-eqb _ _ e) ∙ clear)

-- a module with the mark, where it can't be that there is none
one_with : (s : List ℕ) (k : ℕ) → (((m : ℕ) × (m < modules s) × (mark s m ≡ k) → ⊥) → ⊥) → (m : ℕ) × (m < modules s) × (mark s m ≡ k)
one_with s k h = go (lacks s k) refl
  where
    go : (b : Bool) → lacks s k ≡ b → (m : ℕ) × (m < modules s) × (mark s m ≡ k)
    go true e = absurd (h (λ f. lacks_none s k f.0 f.1 f.2 e))
    go false e = has s k e

pub sound_netlist : (n : Netlist) → Sound n.bytes.now
sound_netlist n = record {
  laid_out = ∥∥₁_elim n.sound (Prim.hlevel props) (λ t. t.laid_out);
  some_modules = ∥∥₁_elim n.sound (Prim.hlevel props) (λ t. t.some_modules);
  few_modules = ∥∥₁_elim n.sound (Prim.hlevel props) (λ t. t.few_modules);
  few_nets = ∥∥₁_elim n.sound (Prim.hlevel props) (λ t. t.few_nets);
  few_pins = ∥∥₁_elim n.sound (Prim.hlevel props) (λ t. t.few_pins);
  area_some = ∥∥₁_elim n.sound (Prim.hlevel props) (λ t. t.area_some);
  mark_low = ∥∥₁_elim n.sound (Prim.hlevel props) (λ t. t.mark_low);
  weight_some = ∥∥₁_elim n.sound (Prim.hlevel props) (λ t. t.weight_some);
  pins_some = ∥∥₁_elim n.sound (Prim.hlevel props) (λ t. t.pins_some);
  pins_all = ∥∥₁_elim n.sound (Prim.hlevel props) (λ t. t.pins_all);
  pin_module = ∥∥₁_elim n.sound (Prim.hlevel props) (λ t. t.pin_module);
  pin_rises = ∥∥₁_elim n.sound (Prim.hlevel props) (λ t. t.pin_rises);
  meter = one_with n.bytes.now 1 (λ none. ∥∥₁_elim n.sound (Prim.hlevel props) (λ t. none t.meter));
  maker = one_with n.bytes.now 2 (λ none. ∥∥₁_elim n.sound (Prim.hlevel props) (λ t. none t.maker));
}

pub laid_netlist : (n : Netlist) → Laid n.bytes.now
laid_netlist n = (sound_netlist n).laid_out
