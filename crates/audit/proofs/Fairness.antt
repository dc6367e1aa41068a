-- Checks 11 and 12 against the page's rules: a flow passes both exactly where it is fair, and where one refuses, its place is the first net or module that breaks its rule.
-- The value is what meter modules send less what they take. Assumes nothing.
use Rattle.std.specs.Prelude.{Some, None}
use Prim.Native.Nat.{ℕ, ◌+◌, ◌≤◌, ◌<◌}
use mathlib.Core.Path.{◌≡◌, refl, sym, ap, subst, ◌∙◌}
use mathlib.Core.Bool.{Bool, true, false, not, ◌&&◌, true≢false}
use mathlib.Core.List.{List}
use native.Mathlib.Omega.{arith}
use borrow.Author.Tests.{ltb-false, eqb-true, not-false, le-ltb, eq-eqb}
use lib.Dec.{ltb, eqb}
use lib.IntN.{ℤ, pos}
use lib.ListN.{take, drop}
use Rattle.line.specs.Card.{Net, all_pins}
use Rattle.line.specs.Flow.{sent, taken, total, flow_at, EachNet, NetRule, only, meters, Fair, value}
use Rattle.line.proofs.Bools.{or_none}
use Rattle.line.proofs.Index.{net_at, each_at, each_from}
use Rattle.line.proofs.Sums.{is_zero, is_pos, flow_diff, total_diff, sum_sent}
use Rattle.book.specs.Format.{modules, nets, mark, weight, pin_count, first_pin}
use Rattle.book.specs.Sound.{Sound}
use Rattle.book.specs.Cards.{nets_of, card_of}
use Rattle.book.proofs.Firsts.{lowest_clear, none_lowest, lowest_at, lowest_found}
use Rattle.book.proofs.CardLaws.{nets-length, net-at, numbers_are}
use Rattle.audit.specs.Rules.{net_sent, net_taken, bad_net_flow, check11, module_sent, module_taken, bad_module_flow, check12, value_sent, value_taken}
use Rattle.audit.specs.Verdicts.{NetKeeps, BrokenNet, ModuleKeeps, BrokenModule}
use Rattle.audit.proofs.Lists.{net_sum, side_sum}

is_true : (b : Bool) → (b ≡ false → ⊥) → b ≡ true
is_true true f = refl
is_true false f = absurd (f refl)

module _ (s : List ℕ) (xs : List ℤ) where
  -- the numbers of net n
  abbrev own : ℕ → List ℤ
  own n = take (pin_count s n) (drop (first_pin s n) xs)

  net_keeps : (n : ℕ) → bad_net_flow s xs n ≡ false → NetKeeps s xs n
  unfolding bad_net_flow
  net_keeps n e =
      let o = or_none (not (eqb (net_sent s xs n) (net_taken s xs n))) (ltb (weight s n) (net_sent s xs n)) e in
      let level : net_sent s xs n ≡ net_taken s xs n = eqb-true _ _ (not-false _ o.0) in
      let low : net_sent s xs n ≤ weight s n = ltb-false _ _ o.1 in
      let ys = own n in
      let a = net_sum sent refl xs (first_pin s n) (pin_count s n) in
      let b = net_sum taken refl xs (first_pin s n) (pin_count s n) in
      record { zero = is_zero (total ys) (omega (arith, total_diff ys)); fits = omega (arith, sum_sent ys) }

  keeps_net : (n : ℕ) → NetKeeps s xs n → bad_net_flow s xs n ≡ false
  unfolding bad_net_flow
  keeps_net n r =
      let ys = own n in
      let a = net_sum sent refl xs (first_pin s n) (pin_count s n) in
      let b = net_sum taken refl xs (first_pin s n) (pin_count s n) in
      let z : sent (total ys) ≡ 0 = ap sent r.zero in
      let y : taken (total ys) ≡ 0 = ap taken r.zero in
      let level : net_sent s xs n ≡ net_taken s xs n = omega (arith, total_diff ys) in
      let low : net_sent s xs n ≤ weight s n = omega (arith, sum_sent ys, r.fits) in
      rw (eq-eqb (net_sent s xs n) (net_taken s xs n) level, le-ltb (weight s n) (net_sent s xs n) low)

  -- no net is bad exactly where each net keeps the rule
  pub nets_keep : check11 s xs ≡ None → EachNet NetRule (nets_of s) xs
  unfolding check11
  nets_keep e =
      each_from NetRule (nets_of s) xs
      (λ n l. let u : n < nets s = omega (arith, nets-length s) in subst (NetRule (net_at (nets_of s) n)) (sym (numbers_are s xs n u)) (subst (λ (e : Net). NetRule e (own n)) (sym (net-at s n u)) (net_keeps n (lowest_clear (bad_net_flow s xs) (nets s) n e u))))

  keeps_at : EachNet NetRule (nets_of s) xs → (n : ℕ) → n < nets s → NetKeeps s xs n
  keeps_at h n l = subst (λ (e : Net). NetRule e (own n)) (net-at s n l) (subst (NetRule (net_at (nets_of s) n)) (numbers_are s xs n l) (each_at NetRule (nets_of s) xs h n (omega (arith, nets-length s))))

  pub keep_nets : EachNet NetRule (nets_of s) xs → check11 s xs ≡ None
  unfolding check11
  keep_nets h = none_lowest (bad_net_flow s xs) (nets s) (λ n l. rw (keeps_net n (keeps_at h n l)) tt)

  -- a bad net is the first that breaks the rule, and the other way round
  pub net_refused : (n : ℕ) → check11 s xs ≡ Some n → BrokenNet s xs n
  unfolding check11
  net_refused n e =
      let r = lowest_at (bad_net_flow s xs) (nets s) n e in record {
        under = r.0;
        breaks = λ k. true≢false (sym r.1 ∙ keeps_net n k);
        before = λ k l. net_keeps k (r.2 k l);
      }

  pub refused_net : (n : ℕ) → BrokenNet s xs n → check11 s xs ≡ Some n
  unfolding check11
  refused_net n b =
      lowest_found (bad_net_flow s xs) n (nets s) (none_lowest (bad_net_flow s xs) n (λ k l. rw (keeps_net k (b.before k l)) tt))
      (is_true (bad_net_flow s xs n) (λ e. b.breaks (net_keeps n e))) b.under

module _ (s : List ℕ) (h : Sound s) (xs : List ℤ) where
  level : (m : ℕ) → module_sent s xs m ≡ module_taken s xs m → flow_at (only m) (all_pins (nets_of s)) xs ≡ pos 0
  level m e =
      is_zero (flow_at (only m) (all_pins (nets_of s)) xs)
      (omega (arith, flow_diff (only m) (all_pins (nets_of s)) xs, side_sum sent refl s h xs (only m), side_sum taken refl s h xs (only m)))

  back : (m : ℕ) → flow_at (only m) (all_pins (nets_of s)) xs ≡ pos 0 → module_sent s xs m ≡ module_taken s xs m
  back m e =
      omega (arith, ap sent e, ap taken e, flow_diff (only m) (all_pins (nets_of s)) xs, side_sum sent refl s h xs (only m), side_sum taken refl s h xs (only m))

  module_keeps : (m : ℕ) → bad_module_flow s xs m ≡ false → ModuleKeeps s xs m
  unfolding bad_module_flow
  module_keeps m e free = level m (eqb-true _ _ (not-false _ (rw (eq-eqb (mark s m) 0 free) at e)))

  keeps_module : (m : ℕ) → ModuleKeeps s xs m → bad_module_flow s xs m ≡ false
  unfolding bad_module_flow
  keeps_module m r = go (eqb (mark s m) 0) (λ e. eq-eqb (module_sent s xs m) (module_taken s xs m) (back m (r (eqb-true _ _ e))))
    where
      go : (b : Bool) → (b ≡ true → eqb (module_sent s xs m) (module_taken s xs m) ≡ true) → (b && not (eqb (module_sent s xs m) (module_taken s xs m))) ≡ false
      go true f = rw (f refl)
      go false f = refl

  -- no module is bad exactly where each free module keeps the rule
  pub modules_keep : check12 s xs ≡ None → (m : ℕ) → m < modules s → ModuleKeeps s xs m
  unfolding check12
  modules_keep e m l = module_keeps m (lowest_clear (bad_module_flow s xs) (modules s) m e l)

  pub keep_modules : ((m : ℕ) → m < modules s → ModuleKeeps s xs m) → check12 s xs ≡ None
  unfolding check12
  keep_modules r = none_lowest (bad_module_flow s xs) (modules s) (λ m l. rw (keeps_module m (r m l)) tt)

  -- a bad module is the lowest that breaks the rule, and the other way round
  pub module_refused : (m : ℕ) → check12 s xs ≡ Some m → BrokenModule s xs m
  unfolding check12
  module_refused m e =
      let r = lowest_at (bad_module_flow s xs) (modules s) m e in
      record { under = r.0; breaks = λ k. true≢false (sym r.1 ∙ keeps_module m k); before = λ k l. module_keeps k (r.2 k l) }

  pub refused_module : (m : ℕ) → BrokenModule s xs m → check12 s xs ≡ Some m
  unfolding check12
  refused_module m b =
      lowest_found (bad_module_flow s xs) m (modules s) (none_lowest (bad_module_flow s xs) m (λ k l. rw (keeps_module k (b.before k l)) tt))
      (is_true (bad_module_flow s xs m) (λ e. b.breaks (module_keeps m e))) b.under

  -- ---- a flow passes both checks exactly where it is fair

  pub passes_fair : check11 s xs ≡ None → check12 s xs ≡ None → Fair (card_of s) xs
  passes_fair e f = record { nets = nets_keep s xs e; modules = modules_keep f }

  pub fair_passes : Fair (card_of s) xs → (check11 s xs ≡ None) × (check12 s xs ≡ None)
  fair_passes f = (keep_nets s xs f.nets, keep_modules f.modules)

  -- ---- the value: what is sent less what is taken

  value_diff : sent (value (card_of s) xs) + value_taken s xs ≡ value_sent s xs + taken (value (card_of s) xs)
  unfolding value
  value_diff =
      let x = meters (card_of s) in
      omega (arith, flow_diff x (all_pins (nets_of s)) xs, side_sum sent refl s h xs x, side_sum taken refl s h xs x)

  pub value_from : (p : ℕ) → value_sent s xs ≡ value_taken s xs + p → value (card_of s) xs ≡ pos p
  value_from p e = is_pos (value (card_of s) xs) p (omega (arith, value_diff))

  pub value_to : (p : ℕ) → value (card_of s) xs ≡ pos p → value_sent s xs ≡ value_taken s xs + p
  value_to p e = omega (arith, value_diff, ap sent e, ap taken e)
