-- `several`: the last items of a form, and its closing bracket.
use Rattle.std.proofs.Common.{rules, ◌≡◌, length, ◌+◌, ◌-◌, [], ◌∷◌, ◌++◌, Some, None}
use native.Mathlib.Omega.{arith}
use native.Mathlib.Numerals.{add-one}
use mathlib.Core.Path.{sym, ap, ◌∙◌}
use mathlib.Core.List.{append-nil}
use lib.ListN.{take, drop, set, length-set}
use lib.Seq.{take-suc-set, drop-set-lt, drop-drop, length-take-le}
use Rattle.text.specs.Token.{tokens}
use Rattle.text.proofs.Tails.{tail_tail}
use Rattle.items.specs.Grammar.{close?, items?, none}
use Rattle.items.proofs.Walks.{ahead_one, items_closed, items_full, items_stop, items_next, some_more}
use Rattle.items.proofs.several.Goals.{then-loop-n-test+else-is_none, else-loop-n-test}
use Rattle.items.proofs.several.Goals as goal

pub returns-in_err-x-clause-filled : goal.returns-in_err-x-clause-filled
returns-in_err-x-clause-filled g c =
    let loop = c.loop-n in
    let ts = tokens loop.rest.now in
    let more : close? ts ≡ none = search rules in
    λ item? reads. rw (c.from_residual.ensures, loop.invariant.read item? reads, items_stop item? (length c.args.places.now - loop.n) ts more (omega arith) (reads loop.rest None c.in_err-x.ensures))

pub loop-n-preserved : goal.loop-n-preserved
loop-n-preserved g c =
    let loop = c.loop-n in
    let most = length c.args.places.now in
    let n = loop.n in
    let xs = loop.places in
    let x = c.in_ok-x.x in
    let ts = tokens loop.rest.now in
    let us = tokens c.in_ok-x.behind.now in
    let more : close? ts ≡ none = search rules in
    let k : most - n - 1 ≡ most - (n + 1) = omega arith in
    let t : take (n + 1) (set xs n x) ≡ take n xs ++ x ∷ [] = rw (add-one, take-suc-set xs n x (omega arith)) in
    record {
      upto = simp length-set (omega arith);
      long = length-set xs n x ∙ loop.invariant.long;
      left = drop-set-lt (n + 1) xs n x (omega arith) ∙ sym (drop-drop 1 n xs) ∙ ap (drop 1) loop.invariant.left ∙ drop-drop 1 n c.args.places.now;
      read = λ item? reads.
          loop.invariant.read item? reads
          ∙ rw (items_next item? (most - n) ts more x us (omega arith) (reads loop.rest (Some (x, c.in_ok-x.behind)) c.in_ok-x.ensures), k, t) (sym (ahead_one (take n xs) x (items? (most - (n + 1)) item? us)));
      tail = λ leaves. tail_tail c.args.s.now loop.rest.now c.in_ok-x.behind.now (loop.invariant.tail leaves) (leaves loop.rest (Some (x, c.in_ok-x.behind)) c.in_ok-x.ensures);
    }

-- all places are full, and more items stand behind them
pub returns-in_err-behind-clause-filled : goal.returns-in_err-behind-clause-filled
returns-in_err-behind-clause-filled g c =
    let loop = c.loop-n in
    let ts = tokens loop.rest.now in
    let more : close? ts ≡ none = c.in_err-behind.ensures.read in
    let full : length c.args.places.now - loop.n ≡ 0 = elim c.loop-n-test.branch [ then-loop-n-test+else-is_none w ↦ absurd (search rules) | else-loop-n-test w ↦ omega arith ] in
    λ item? reads. rw (c.from_residual-in_err-behind.ensures, loop.invariant.read item? reads, full, items_full item? ts more)

pub returns-then-n-eq0-clause-filled : goal.returns-then-n-eq0-clause-filled
returns-then-n-eq0-clause-filled g c =
    let loop = c.loop-n in
    λ item? reads. rw (loop.invariant.read item? reads, items_closed item? (length c.args.places.now - loop.n) (tokens loop.rest.now) (tokens c.in_ok-behind.behind.now) c.in_ok-behind.ensures.read, c.if-n-eq0.true)

pub returns-clause-tail : goal.returns-clause-tail
returns-clause-tail g c =
    λ leaves. tail_tail c.args.s.now c.loop-n.rest.now c.in_ok-behind.behind.now (c.loop-n.invariant.tail leaves) c.in_ok-behind.ensures.tail

pub returns-clause-filled : goal.returns-clause-filled
returns-clause-filled g c =
    let loop = c.loop-n in
    let us = tokens c.in_ok-behind.behind.now in
    let xs = take loop.n loop.places in
    let l : length xs ≡ loop.n = length-take-le loop.n loop.places (omega arith) in
    λ item? reads.
    (rw (loop.invariant.read item? reads, items_closed item? (length c.args.places.now - loop.n) (tokens loop.rest.now) us c.in_ok-behind.ensures.read, append-nil xs) (some_more xs us (omega arith)), loop.invariant.left)
