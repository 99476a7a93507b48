-- Laws of the functions that take lines: what each gives moves the service by its piece of the input.
use mathlib.Core.Path.{◌≡◌, refl, sym, ◌∙◌, ap}
use mathlib.Core.List.{List, [], ◌∷◌, ◌++◌, append-nil}
use Prim.Native.Nat.{ℕ, ◌+◌, ◌-◌, ◌≤◌, ◌<◌}
use native.Mathlib.Omega.{arith}
use native.Mathlib.Numerals.{add-one}
use lib.ListN.{length, take, drop, set, length-take, length-drop}
use lib.Seq.{take_all, take-nil, take-suc-set}
use Rattle.panel.specs.Step.{step_of}
use Rattle.input.specs.Lines.{Cut, cut, NoNewline, line_length, between}
use Rattle.input.proofs.Cutting.{by_count, bytes_before, cut_none, begun_newlines, cut_join, cut_line, front_none, front, between_on, between_none, line_uncut, line_with}
use Rattle.lines.specs.declared.Feed.{Feed}
use Rattle.lines.specs.Taking.{Taken, LinesTaken, FromBlock, LineTaken, BegunTaken, Moves, FirstMoved, BlockMoved}
use Rattle.lines.proofs.Taking.{none_sent, none_replied, one_sent, one_replied, taken_none, taken_more}
use Rattle.lines.proofs.Blocks.{no_lines, take_front, stands_full, stands_on, stands_lines, stands_line, moves_on}

-- ---- the loop over a block's lines, at i
pub record TakingAt (f : Feed) (block : List ℕ) (at : ℕ) (out₀ : List ℕ) (r : Feed) (i : ℕ) (out : List ℕ) : Type 0 where
  pub onward : at ≤ i
  pub inside : i ≤ length block
  pub room : r.filled ≤ 65536
  pub sized : length out ≡ 65536
  pub kept : r.used ≡ f.used
  pub taken : LinesTaken f (take f.filled out₀) (between block at i) r (take r.filled out)

pub taking_first : (f : Feed) (block : List ℕ) (at : ℕ) (out : List ℕ) → at ≤ length block → f.filled ≤ 65536 → length out ≡ 65536 → TakingAt f block at out f at out
taking_first f block at out h w n =
    record { onward = omega arith; inside = h; room = w; sized = n; kept = refl; taken = taken_none f (take f.filled out) block at }

module _ {f : Feed} {block : List ℕ} {at : ℕ} {out₀ : List ℕ} {r : Feed} {i : ℕ} {out : List ℕ} (s : TakingAt f block at out₀ r i out) where
  -- the line up to the next byte 10, at e
  pub taking_line : (e : ℕ) → e ≡ i + line_length (drop i block) → e < length block → 0 < r.left → (g : Feed) (after : List ℕ) →
      g.cond ≡ (step_of r.cond (between block i e) 2100).after → g.left ≡ r.left - 1 → g.used ≡ r.used →
      take g.filled after ≡ take r.filled out ++ (step_of r.cond (between block i e) 2100).reply → g.filled ≤ 65536 → length after ≡ 65536 → TakingAt f block at out₀ g (e + 1) after
  taking_line e there h p g after c n u w m l =
      let b = between_on block at i (e + 1) s.onward (omega arith) in
      record {
        onward = omega (arith, s.onward);
        inside = omega arith;
        room = m;
        sized = l;
        kept = u ∙ s.kept;
        taken = rw (← b, line_with block i e there h) (taken_more {g = g} s.taken (between block i e) (line_uncut block i e there) p c n w);
      }

  pub taking_ends : (0 < r.left → r.filled + 2100 ≤ 65536 → NoNewline (drop i block)) → FromBlock f block at out₀ (record { feed = r; at = i }) out
  taking_ends h =
      record { onward = s.onward; inside = s.inside; taken = s.taken; kept = s.kept; room = s.room; stopped = h }

-- ---- the line that has begun, taken as a block of its own with byte 10 behind it
one_of : {P : Type 0} (a b : List (List ℕ)) (k : List ℕ) → a ++ b ≡ k ∷ [] → (a ≡ [] → b ≡ k ∷ [] → P) → (a ≡ k ∷ [] → P) → P
one_of [] b k e f g = f refl e
one_of (l ∷ []) b k e f g = let h : l ≡ k = cc in g (ap (λ (l : List ℕ). l ∷ []) h)
one_of (l ∷ (m ∷ a)) b k e f g = absurd (omega (arith, ap length e))

module _ (f : Feed) (kept block out after : List ℕ) (r : Taken) (same : block ≡ kept ++ 10 ∷ []) (t : FromBlock f block 0 out r after)
    (room : f.filled + 2100 ≤ 65536) (sized : length out ≡ 65536) (still : length after ≡ 65536) where
  passed : List ℕ
  passed = between block 0 r.at

  begun_cut : NoNewline kept → (cut passed).lines ++ (cut (drop r.at block)).lines ≡ kept ∷ []
  unfolding passed
  begun_cut n =
      let b = between_on block 0 r.at (length block) (omega arith) t.inside in
      let d : between block r.at (length block) ≡ drop r.at block = take_all (length block - r.at) (drop r.at block) (omega (arith, length-drop r.at block)) in
      let w : between block 0 (length block) ≡ block = take_all (length block - 0) block (omega arith) in
      let k : cut (between block 0 r.at ++ drop r.at block) ≡ record { lines = kept ∷ []; rest = [] } = rw (← d, b, w, same) (cut_line kept (bytes_before kept n)) in
      let j = cut_join (between block 0 r.at) (drop r.at block) in
      let z : front [] (cut (drop r.at block)) ≡ cut (drop r.at block) = front_none (cut (drop r.at block)).lines (cut (drop r.at block)).rest in
      ap (λ (k : Cut). k.lines) (sym (rw (t.taken.whole, z) at j) ∙ k)

  -- nothing passed over: the same condition, and nothing more waits
  none_passed : (cut passed).lines ≡ [] → (r.feed.cond ≡ f.cond) × (take r.feed.filled after ≡ take f.filled out) × (r.feed.left ≡ f.left)
  unfolding passed
  none_passed z = (
    t.taken.condition ∙ rw z (none_sent f.cond),
    t.taken.replied ∙ rw (z, none_replied f.cond) (append-nil (take f.filled out)),
    omega (arith, t.taken.count, ap length z),
  )

  pub begun_taken : (g : Feed) → g.cond ≡ r.feed.cond → g.left ≡ r.feed.left → g.filled ≡ r.feed.filled → g.used ≡ 0 →
      BegunTaken f kept (take f.filled out) g (take g.filled after)
  unfolding passed
  begun_taken g c l w u =
      record {
        taken = λ n p. one_of (cut passed).lines (cut (drop r.at block)).lines kept (begun_cut n)
            (λ z e. let s = none_passed z in
            let h = t.stopped (omega (arith, s.2)) (omega (arith, ap length s.1, length-take r.feed.filled after, length-take f.filled out, t.room)) in
            let k = cut_none (drop r.at block) (bytes_before (drop r.at block) h) in
            absurd (omega (arith, ap length (sym e ∙ ap (λ (k : Cut). k.lines) k))))
            (λ z. record {
              condition = c ∙ t.taken.condition ∙ rw z (one_sent f.cond kept);
              replied = rw w (t.taken.replied ∙ rw (z, one_replied f.cond kept));
              count = omega (arith, t.taken.count, ap length z);
            });
        full = λ z. let s = none_passed (no_lines (cut passed).lines (omega (arith, t.taken.count))) in (c ∙ s.0, l ∙ s.2 ∙ z, rw w s.1);
        none = u;
        room = omega (arith, t.room);
      }

-- the line in its buffer, with byte 10 behind it
pub line_ended : (line : List ℕ) (used : ℕ) → used < length line → take (used + 1) (set line used 10) ≡ take used line ++ 10 ∷ []
line_ended line used h = rw add-one (take-suc-set line used 10 h)

-- ---- the line that has begun, in this block
pub first_none : (f : Feed) (line out block : List ℕ) (at : ℕ) → f.used ≡ 0 → f.filled ≤ 65536 → at ≤ length block → FirstMoved f line out block at (record { feed = f; at = at }) line out
unfolding line_length
first_none f line out block at z w h =
    record {
      onward = omega arith;
      further = λ p. absurd (omega arith);
      inside = h;
      begun = omega arith;
      room = w;
      waits = λ e. refl;
      ended = λ h p. z;
      moved = rw (between_none block at) (stands_on [] (omega arith) refl refl refl (λ p. rw z (sym (take-nil 2001))));
    }

-- what is kept of it with the bytes up to e, where the block's next byte 10 stands, if it has one
module _ (f g : Feed) (line out block after : List ℕ) (at e : ℕ) (there : e ≡ at + line_length (drop at block)) (before : at < length block) (inside : e ≤ length block)
    (same : g.cond ≡ f.cond) (count : g.left ≡ f.left) (waits : g.filled ≡ f.filled) (few : g.used ≤ 2001) (room : f.filled ≤ 65536) (begun : 0 < f.used)
    (kept : take g.used after ≡ take 2001 (take f.used line ++ between block at e)) where
  pub first_on : length block ≤ e → FirstMoved f line out block at (record { feed = g; at = e }) after out
  first_on h =
      record {
        onward = omega arith;
        further = λ p. omega arith;
        inside = inside;
        begun = few;
        room = omega arith;
        waits = λ z. waits;
        ended = λ i p. absurd (omega arith);
        moved = rw waits (stands_on (between block at e) (line_uncut block at e there) same count refl (λ p. kept));
      }

  module _ (r : Feed) (last out' : List ℕ) (k : BegunTaken g (take g.used after) (take g.filled out) r (take r.filled out')) (h : e < length block) where
    begun_ended : NoNewline (take g.used after) → 0 < f.left → LineTaken f (take 2001 (take f.used line ++ between block at e)) (take f.filled out) r (take r.filled out')
    begun_ended n p =
        let t = k.taken n (omega arith) in
        record {
          condition = t.condition ∙ rw (same, kept);
          replied = t.replied ∙ rw (same, kept, waits);
          count = omega (arith, t.count);
        }

    line_moved : Moves f (take f.used line) (take f.filled out) (between block at (e + 1)) r (take r.used last) (take r.filled out')
    line_moved most input handed s =
        by_count f.left
        (λ z. let w = k.full (omega arith) in stands_full (between block at (e + 1)) z (w.0 ∙ same) w.1 (w.2 ∙ rw waits) most input handed s)
        (λ p. let u = line_uncut block at e there in
        let n : NoNewline (take g.used after) = rw (kept, s.begun p, take_front) (begun_newlines input (between block at e) u) in
        let w : take r.used last ≡ [] = rw k.none refl in
        let v : Moves f (take f.used line) (take f.filled out) (between block at (e + 1)) r (take r.used last) (take r.filled out') =
        rw (w, line_with block at e there h) (stands_line (between block at e) p u (begun_ended n p)) in v most input handed s)

    pub first_taken : FirstMoved f line out block at (record { feed = r; at = e + 1 }) last out'
    first_taken =
        record {
          onward = omega arith;
          further = λ p. omega arith;
          inside = omega arith;
          begun = omega (arith, k.none);
          room = k.room;
          waits = λ z. absurd (omega arith);
          ended = λ i p. k.none;
          moved = line_moved;
        }

-- ---- a block: the line that had begun, the lines behind it, and what is kept of the rest
module _ {f : Feed} {line out block : List ℕ} {at : ℕ} {one : Taken} {line' out' : List ℕ} (m : FirstMoved f line out block at one line' out')
    {t : Taken} {after : List ℕ} (b : FromBlock one.feed block one.at out' t after) where
  lines_moved : Moves one.feed (take one.feed.used line') (take one.feed.filled out') (between block one.at t.at) t.feed (take t.feed.used line') (take t.feed.filled after)
  unfolding cut line_length
  lines_moved =
      by_count (length block - one.at)
      (λ z. let a : t.at ≡ one.at = omega (arith, b.onward, b.inside) in
      let p : between block one.at t.at ≡ [] = rw (a, between_none block one.at) in
      let s : LinesTaken one.feed (take one.feed.filled out') [] t.feed (take t.feed.filled after) = rw p at b.taken in
      rw (p, b.kept) (stands_on [] (omega arith) (s.condition ∙ none_sent one.feed.cond) (omega (arith, s.count))
      (s.replied ∙ rw (none_replied one.feed.cond) (append-nil (take one.feed.filled out')))
      (λ p. rw (append-nil (take one.feed.used line')) (sym (take_all 2001 (take one.feed.used line') (omega (arith, length-take one.feed.used line', m.begun)))))))
      (λ q. stands_lines (between block one.at t.at) (λ p. rw (m.ended (omega arith) p) refl) b.taken
      (λ p. rw (b.kept, m.ended (omega arith) (omega (arith, b.taken.count))) refl))

  moved : Moves f (take f.used line) (take f.filled out) (between block at t.at) t.feed (take t.feed.used line') (take t.feed.filled after)
  moved = rw (between_on block at one.at t.at m.onward b.onward) at (moves_on (between block at one.at) (between block one.at t.at) m.moved lines_moved)

  whole : {r : Feed} {kept : List ℕ} → t.at ≤ length block → Moves t.feed (take t.feed.used line') (take t.feed.filled after) (between block t.at (length block)) r kept (take r.filled after) →
      Moves f (take f.used line) (take f.filled out) (between block at (length block)) r kept (take r.filled after)
  whole h n =
      rw (between_on block at t.at (length block) (omega (arith, m.onward, b.onward)) h) at (moves_on (between block at t.at) (between block t.at (length block)) moved n)

  module _ (before : at < length block) where
    -- no line is left
    pub block_full : t.feed.left ≡ 0 → BlockMoved f line out block at (record { feed = t.feed; at = length block }) line' after
    block_full z =
        record {
          onward = before;
          inside = omega arith;
          begun = omega (arith, b.kept, m.begun);
          room = b.room;
          moved = whole b.inside (stands_full (between block t.at (length block)) z refl z refl);
        }

    -- the replies fill their buffer
    pub block_waits : f.filled + 2100 ≤ 65536 → length after ≡ 65536 → length out' ≡ 65536 → 63436 < t.feed.filled → BlockMoved f line out block at t line' after
    unfolding cut
    block_waits w l n h =
        record {
          onward = by_count f.used (λ z. further z) (λ p. omega (arith, m.further p, b.onward));
          inside = b.inside;
          begun = omega (arith, b.kept, m.begun);
          room = b.room;
          moved = moved;
        }
      where
        further : f.used ≡ 0 → at < t.at
        further z =
            by_count (t.at - one.at)
            (λ y. let a : t.at ≡ one.at = omega (arith, b.onward) in
            let p : between block one.at t.at ≡ [] = rw (a, between_none block one.at) in
            let s : LinesTaken one.feed (take one.feed.filled out') [] t.feed (take t.feed.filled after) = rw p at b.taken in
            let e : take t.feed.filled after ≡ take one.feed.filled out' = s.replied ∙ rw (none_replied one.feed.cond) (append-nil (take one.feed.filled out')) in
            absurd (omega (arith, ap length e, length-take t.feed.filled after, length-take one.feed.filled out', m.waits z, b.room)))
            (λ y. omega (arith, m.onward, b.onward))

    -- what stands behind the last line is kept
    pub block_kept : (used : ℕ) (last : List ℕ) → 0 < t.feed.left → t.feed.filled + 2100 ≤ 65536 → used ≤ 2001 →
        take used last ≡ take 2001 (take t.feed.used line' ++ between block t.at (length block)) →
        BlockMoved f line out block at (record { feed = record { cond = t.feed.cond; left = t.feed.left; used = used; filled = t.feed.filled }; at = length block }) last after
    block_kept used last p h u k =
        let d : between block t.at (length block) ≡ drop t.at block = take_all (length block - t.at) (drop t.at block) (omega (arith, length-drop t.at block)) in
        record {
          onward = before;
          inside = omega arith;
          begun = u;
          room = b.room;
          moved = whole b.inside (stands_on (between block t.at (length block)) (rw d (bytes_before (drop t.at block) (b.stopped p h))) refl refl refl (λ p. k));
        }
