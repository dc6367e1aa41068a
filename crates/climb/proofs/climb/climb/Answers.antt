-- The flow is steady with the sums just made.
use Rattle.std.proofs.Common.{◌≡◌, ℕ, ◌<◌, List, length, get_or, replicate, ap, ◌∙◌, arith}
use Rattle.std.proofs.lemmas.List.{length-replicate, get_or-replicate}
use Rattle.flow.proofs.BoardLaws.{heavy_of}
use Rattle.flow.proofs.Sets.{in_length}
use Rattle.flow.proofs.WholeLaws.{summable_of, steady_of}
use Rattle.climb.specs.Climb.{Empty}
use Rattle.climb.proofs.climb.climb.Goals as goal

-- no module is on a way of zeros
no_way : (w : List ℕ) (n : ℕ) → w ≡ replicate n 0 → Empty w
no_way w n e m i =
    let on : m < length w = in_length w m i in
    let low : m < n = omega (arith, ap length e, length-replicate {A = ℕ} n 0) in
    omega (arith, i, ap (λ (v : List ℕ). get_or v m 0) e, get_or-replicate {A = ℕ} n m 0 0 low)

pub net_sums-requires : goal.net_sums-requires
net_sums-requires c =
    let args = c.args in
    let pre = c.requires in
    let b = args.board.now in
    summable_of b.first.now b.mods.now b.weight.now b.mark.now pre.0.laid (heavy_of b) args.flow.now pre.3 pre.4 _ pre.2

pub climb_on-requires : goal.climb_on-requires
climb_on-requires c =
    let pre = c.requires in
    let args = c.args in
    let b = args.board.now in
    let net-sums = c.net_sums in
    (steady_of b.first.now b.mods.now b.weight.now b.mark.now pre.0.laid (heavy_of b) args.flow.now pre.3 pre.4 _ (net-sums.auto.sums ∙ pre.2) (record { sum = λ e l. net-sums.ensures.sum e (omega (arith, net-sums.auto.sums)) }), record { how = c.fill.auto.self ∙ pre.1.how; seen = pre.1.seen }, no_way c.fill.new.self (length args.how.now) (c.fill.ensures.after (λ _ e. e)))
