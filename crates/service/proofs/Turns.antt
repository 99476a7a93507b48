-- Laws of the service's turns: what was read and handed out before a turn, and behind it.
use mathlib.Core.Path.{◌≡◌, refl, sym, ◌∙◌, ap}
use mathlib.Core.Bool.{Bool, true, false}
use mathlib.Core.List.{List, [], ◌∷◌, ◌++◌, append-nil, append_assoc}
use Prim.Native.Nat.{ℕ, ◌+◌, ◌-◌, ◌≤◌, ◌<◌}
use native.Mathlib.Omega.{arith}
use lib.ListN.{length, take, drop, length-append, length-take, take-append-drop}
use lib.Seq.{drop-drop}
use Rattle.whole.proofs.Lists.{drop_end}
use Rattle.condition.specs.Condition.{empty}
use Rattle.panel.specs.Step.{step_of, condition_after}
use Rattle.input.specs.declared.Told.TheVariants.{LastLine, NoMore}
use Rattle.input.specs.Lines.{cut, between}
use Rattle.input.specs.Limits.{HasRead, Asked, ToldIs}
use Rattle.input.proofs.Cutting.{cut_law, front_newlines}
use Rattle.lines.specs.declared.Feed.{Feed}
use Rattle.lines.specs.Replies.{sent, replies_to}
use Rattle.lines.specs.Taking.{Taken, BegunTaken, Stands, BlockMoved}
use Rattle.lines.proofs.Taking.{sent_on, replied_on, one_sent, one_replied}
use Rattle.lines.proofs.Blocks.{short_line}
use Rattle.service.specs.Serving.{Serving, Over}

pub not_both : {P : Type 0} (b : Bool) → b ≡ true → b ≡ false → P
not_both b t f = let z : ◌≡◌ {A = ℕ} 0 1 = cc in absurd (omega arith)

-- all of a block's n bytes were taken
pub used_up : (block : List ℕ) (n at : ℕ) → n ≤ at → drop at (take n block) ≡ []
used_up block n at h = drop_end (take n block) at 0 (omega (arith, length-take n block))

-- the bytes up to a place, and those behind it
between_rest : (b : List ℕ) (i j : ℕ) → i ≤ j → between b i j ++ drop j b ≡ drop i b
between_rest b i j h =
    let n : j ≡ i + (j - i) = omega arith in
    ap (λ (n : ℕ). between b i j ++ drop n b) n ∙ rw (← drop-drop (j - i) i b) (take-append-drop (j - i) (drop i b))

-- ---- the start
pub serving_first : (lines bytes : ℕ) (f : Feed) (line out : List ℕ) → Stands lines [] f [] [] → f.used ≡ 0 → f.filled ≡ 0 → Serving lines bytes f line out [] bytes
serving_first lines bytes f line out s u w =
    record { read = []; input = []; handed = []; counted = omega arith; same = refl; stands = record { condition = s.condition; replied = rw w s.replied; count = s.count; begun = λ p. rw u (s.begun p) } }

module _ {lines bytes : ℕ} {f : Feed} {line out rest : List ℕ} {more : ℕ} (s : Serving lines bytes f line out rest more) where
  -- ---- lines of the block were taken, and what waited was written
  pub serving_fed : (b : List ℕ) (at : ℕ) (r : Taken) (line' out' : List ℕ) → rest ≡ drop at b → BlockMoved f line out b at r line' out' →
      Serving lines bytes (record { cond = r.feed.cond; left = r.feed.left; used = r.feed.used; filled = 0 }) line' out' (drop r.at b) more
  serving_fed b at r line' out' e m =
      let t = m.moved lines s.input s.handed s.stands in
      record {
        read = s.read;
        input = s.input ++ between b at r.at;
        handed = s.handed ++ take r.feed.filled out';
        counted = s.counted;
        same = append_assoc s.input (between b at r.at) (drop r.at b) ∙ rw (between_rest b at r.at (omega (arith, m.onward)), ← e) s.same;
        stands = record { condition = t.condition; replied = append-nil (s.handed ++ take r.feed.filled out') ∙ t.replied; count = t.count; begun = t.begun };
      }

  -- ---- the block is used up
  module _ (up : rest ≡ []) where
    all_read : s.input ≡ s.read
    all_read = sym (append-nil s.input) ∙ (rw up at s.same)

    -- a block was read
    pub serving_read : (got : ℕ) (b : List ℕ) → length b ≡ got → got ≤ more → Serving lines bytes f line out b (more - got)
    serving_read got b l h =
        record {
          read = s.read ++ b;
          input = s.input;
          handed = s.handed;
          counted = omega (arith, s.counted, length-append s.read b);
          same = rw all_read;
          stands = s.stands;
        }

    module _ (few : f.used ≤ 2001) (long : length line ≡ 2002) where
      has_read : HasRead lines bytes s.input f.left f.used more
      has_read =
          record {
            counted = omega (arith, s.counted, ap length all_read);
            count = s.stands.count;
            begun = λ p. omega (arith, ap length (s.stands.begun p), length-take f.used line, length-take 2001 (cut s.input).rest);
          }

      -- ---- the service stops: nothing more is asked for
      pub over_asked : (got : ℕ) → Asked f.left f.used more 0 → Over lines bytes f out got
      over_asked got a =
          record {
            read = s.read;
            handed = s.handed;
            taken = take lines (cut s.input).lines;
            all = λ later q. rw (← all_read) (a.none refl lines bytes s.input later has_read);
            condition = s.stands.condition;
            replied = s.stands.replied;
          }

      module _ (got : ℕ) (b : List ℕ) (l : length b ≡ got) (p : 0 < f.left) where
        -- no line more
        pub over_none : ToldIs f.used more got NoMore → Over lines bytes f out got
        over_none t =
            record {
              read = s.read ++ b;
              handed = s.handed;
              taken = take lines (cut s.input).lines;
              all = λ later q. rw (append_assoc, ← all_read) (t lines bytes f.left s.input (b ++ later) p has_read
                  (record { none = λ z. rw (no_bytes b (l ∙ z)) (q z); some = omega (arith, length-append b later) }));
              condition = s.stands.condition;
              replied = s.stands.replied;
            }
          where
            no_bytes : (b : List ℕ) → length b ≡ 0 → b ≡ []
            no_bytes [] e = refl
            no_bytes (x ∷ b) e = absurd (omega arith)

        -- the line that has begun was the last
        pub over_last : ToldIs f.used more got LastLine → (r : Feed) (out' : List ℕ) → BegunTaken f (take f.used line) (take f.filled out) r (take r.filled out') → Over lines bytes r out' got
        over_last t r out' k =
            let ls = take lines (cut s.input).lines in
            let rest = (cut s.input).rest in
            let e = s.stands.begun p in
            let n = k.taken (rw e (front_newlines 2001 rest (cut_law s.input).rest)) p in
            record {
              read = s.read;
              handed = s.handed;
              taken = ls ++ rest ∷ [];
              all = λ later q. rw (q t.0, append-nil s.read, ← all_read) (t.1 lines bytes f.left s.input p has_read);
              condition = n.condition ∙ rw (e, short_line f.cond rest 2100, s.stands.condition) (sym (sent_on empty ls (rest ∷ []) ∙ one_sent (condition_after empty (sent ls)) rest));
              replied =
                  ap (λ (w : List ℕ). s.handed ++ w) n.replied
                  ∙ sym (append_assoc s.handed (take f.filled out) (step_of f.cond (take f.used line) 2100).reply)
                  ∙ rw (s.stands.replied, e, short_line f.cond rest 2100, s.stands.condition)
                  (sym (replied_on empty ls (rest ∷ []) ∙ ap (λ (w : List ℕ). replies_to empty ls ++ w) (one_replied (condition_after empty (sent ls)) rest)));
            }
