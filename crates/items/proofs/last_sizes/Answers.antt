-- `last_sizes`: the last numbers of a form, and its closing bracket.
use Rattle.std.proofs.Common.{rules, ◌≡◌, ◌+◌, ◌-◌, take, List, ℕ, [], ◌∷◌, ◌++◌}
use native.Mathlib.Omega.{arith}
use native.Mathlib.Numerals.{add-one}
use mathlib.Core.Path.{sym, ap, ◌∙◌}
use lib.ListN.{set, length-set, length-replicate}
use lib.Seq.{take-suc-set, take_all}
use Rattle.text.specs.Token.{tokens}
use Rattle.text.proofs.Tails.{tail_tail}
use Rattle.items.specs.Grammar.{got}
use Rattle.items.proofs.Walks.{ahead, ahead_one, ahead_none, ahead_end, sizes, sizes_stop, sizes_next, sizes_closed, sizes_unclosed}
use Rattle.items.proofs.last_sizes.Goals as goal

pub loop-value-init : goal.loop-value-init
loop-value-init g c =
    let n = g.row.N in
    let e : n - 0 ≡ n = omega arith in
    record { long = length-replicate n 0; read = rw e (sym (ahead_none (sizes n (tokens c.args.s.now)))); tail = search rules }

pub returns-in_err-v-clause-read : goal.returns-in_err-v-clause-read
returns-in_err-v-clause-read g c =
    let loop = c.loop-value in
    loop.invariant.read ∙ rw (sizes_stop (g.row.N - loop.value-index) (tokens loop.rest.now) (omega arith) c.in_err-v.ensures.read, c.from_residual.ensures)

pub loop-value-preserved : goal.loop-value-preserved
loop-value-preserved g c =
    let loop = c.loop-value in
    let n = g.row.N in
    let i = loop.value-index in
    let vs = loop.value-items in
    let v = c.in_ok-v.v in
    let us = tokens c.in_ok-v.behind.now in
    let k : n - i - 1 ≡ n - (i + 1) = omega arith in
    let t : take (i + 1) (set vs i v) ≡ take i vs ++ v ∷ [] = rw (add-one, take-suc-set vs i v (omega arith)) in
    record {
      long = length-set vs i v ∙ loop.invariant.long;
      read = loop.invariant.read ∙ rw (sizes_next (n - i) (tokens loop.rest.now) v us (omega arith) c.in_ok-v.ensures.read, k, t) (sym (ahead_one (take i vs) v (sizes (n - (i + 1)) us)));
      tail = tail_tail c.args.s.now loop.rest.now c.in_ok-v.behind.now loop.invariant.tail c.in_ok-v.ensures.tail;
    }

-- every number is read, and the bracket is left
pub returns-in_err-close-clause-read : goal.returns-in_err-close-clause-read
returns-in_err-close-clause-read g c =
    let loop = c.loop-value in
    let vs = take loop.value-index loop.value-items in
    rw c.from_residual-in_err-close.ensures (loop.invariant.read ∙ ap (ahead vs) (sizes_unclosed (g.row.N - loop.value-index) (tokens loop.rest.now) (omega arith) c.in_err-close.ensures.read))

pub returns-clause-read : goal.returns-clause-read
returns-clause-read g c =
    let loop = c.loop-value in
    let vs = take loop.value-index loop.value-items in
    let us = tokens c.in_ok-close.field-0.now in
    loop.invariant.read
    ∙ ap (ahead vs) (sizes_closed (g.row.N - loop.value-index) (tokens loop.rest.now) us (omega arith) c.in_ok-close.ensures.read)
    ∙ ahead_end vs us
    ∙ ap (λ (xs : List ℕ). got xs us) (take_all loop.value-index loop.value-items (omega arith))
