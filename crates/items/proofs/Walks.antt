-- Laws of the grammar, as loops use them: what was read so far, and the reading of what is left.
use mathlib.Core.Path.{◌≡◌, refl, sym, ◌∙◌, ap}
use mathlib.Core.Bool.{true, false}
use mathlib.Core.List.{List, [], ◌∷◌, ◌++◌, map, append-nil}
use Prim.Native.Nat.{ℕ, zero, suc, ◌-◌, ◌<◌}
use native.Mathlib.Omega.{arith}
use lib.ListN.{length, get_or, get_or-map}
use lib.Seq.{append_snoc}
use Rattle.text.specs.Token.{Token}
use Rattle.items.specs.Grammar.{Parsed, got, none, ◌and_then◌, close?, number?, nth, numbers?, last_numbers?, or_else, items?, some_of, several?, whole?}
use Rattle.items.specs.Carried.{carry, carried}
use Rattle.items.specs.Reads.{is_end}
use Rattle.std.specs.Prelude.{Some, None}

-- what was read, in front of what is read behind it
abbrev pub ahead : {A : Type 0} → List A → Parsed (List A) → Parsed (List A)
ahead xs p = carry (λ ys. xs ++ ys) p

pub ahead_none : {A : Type 0} (p : Parsed (List A)) → ahead [] p ≡ p
ahead_none (got ys ts) = refl
ahead_none none = refl

pub ahead_one : {A : Type 0} (xs : List A) (x : A) (p : Parsed (List A)) → ahead (xs ++ x ∷ []) p ≡ ahead xs (ahead (x ∷ []) p)
ahead_one xs x (got ys ts) = ap (λ zs. got zs ts) (append_snoc xs x ys)
ahead_one xs x none = refl

pub ahead_end : {A : Type 0} (xs : List A) (ts : List Token) → ahead xs (got [] ts) ≡ got xs ts
ahead_end xs ts = ap (λ zs. got zs ts) (append-nil xs)

-- the last numbers, as they are carried
abbrev pub sizes : ℕ → List Token → Parsed (List ℕ)
sizes k ts = carry (map carried) (last_numbers? k ts)

two_steps : (p : Parsed ℕ) (k : ℕ) →
    carry (map carried) ((p and_then λ v us. numbers? k us and_then λ vs ws. got (v ∷ vs) ws) and_then λ vs us. close? us and_then λ u ws. got vs ws)
    ≡ (carry carried p and_then λ v us. ahead (v ∷ []) (sizes k us))
unfolding last_numbers?
two_steps none k = refl
two_steps (got v us) k = behind (numbers? k us)
  where
    closes : (vs : List ℕ) (c : Parsed (Unit {0})) → carry (map carried) (c and_then λ u ws. got (v ∷ vs) ws) ≡ ahead (carried v ∷ []) (carry (map carried) (c and_then λ u ws. got vs ws))
    closes vs (got u ws) = refl
    closes vs none = refl

    behind : (q : Parsed (List ℕ)) → carry (map carried) ((q and_then λ vs ws. got (v ∷ vs) ws) and_then λ vs us. close? us and_then λ u ws. got vs ws)
        ≡ ahead (carried v ∷ []) (carry (map carried) (q and_then λ vs us. close? us and_then λ u ws. got vs ws))
    behind (got vs ws) = closes vs (close? ws)
    behind none = refl

sizes_suc : (k : ℕ) (ts : List Token) → sizes (suc k) ts ≡ (carry carried (number? ts) and_then λ v us. ahead (v ∷ []) (sizes k us))
unfolding last_numbers? numbers?
sizes_suc k ts = two_steps (number? ts) k

module _ (k : ℕ) (ts : List Token) where
  pub sizes_stop : 0 < k → carry carried (number? ts) ≡ none → sizes k ts ≡ none
  sizes_stop h e = go k h
    where
      go : (k : ℕ) → 0 < k → sizes k ts ≡ none
      go zero h = absurd (omega arith)
      go (suc k) h = sizes_suc k ts ∙ rw e

  pub sizes_next : (v : ℕ) (us : List Token) → 0 < k → carry carried (number? ts) ≡ got v us → sizes k ts ≡ ahead (v ∷ []) (sizes (k - 1) us)
  sizes_next v us h e = go k h
    where
      go : (k : ℕ) → 0 < k → sizes k ts ≡ ahead (v ∷ []) (sizes (k - 1) us)
      go zero h = absurd (omega arith)
      go (suc k) h = let a : suc k - 1 ≡ k = omega arith in sizes_suc k ts ∙ rw (e, a)

-- the closing bracket behind the last of them
module _ (k : ℕ) (ts : List Token) where
  pub sizes_closed : (us : List Token) → k ≡ 0 → close? ts ≡ got tt us → sizes k ts ≡ got [] us
  unfolding last_numbers? numbers?
  sizes_closed us e f = rw (e, f)

  pub sizes_unclosed : k ≡ 0 → close? ts ≡ none → sizes k ts ≡ none
  unfolding last_numbers? numbers?
  sizes_unclosed e f = rw (e, f)

-- ---- what was read, and what it is carried as
abbrev value_or : {A : Type 0} → A → Parsed A → A
value_or d (got a ts) = a
value_or d none = d

abbrev rest_of : {A : Type 0} → Parsed A → List Token
rest_of (got a ts) = ts
rest_of none = []

abbrev is_got : {A : Type 0} → Parsed A → ℕ
is_got (got a ts) = 1
is_got none = 0

pub record Carries {A B : Type 0} (f : A → B) (p : Parsed A) (b : B) (ts : List Token) : Type 0 where
  pub read : A
  pub is : p ≡ got read ts
  pub kept : b ≡ f read

module _ {A B : Type 0} (f : A → B) where
  pub carries : (p : Parsed A) (b : B) (ts : List Token) → carry f p ≡ got b ts → Carries f p b ts
  carries (got a us) b ts e = record { read = a; is = ap (got a) (ap rest_of e); kept = sym (ap (value_or b) e) }
  carries none b ts e = let z : ◌≡◌ {A = ℕ} 0 1 = ap is_got e in absurd (omega arith)

  pub carries_none : (p : Parsed A) → carry f p ≡ none → p ≡ none
  carries_none (got a us) e = let z : ◌≡◌ {A = ℕ} 1 0 = ap is_got e in absurd (omega arith)
  carries_none none e = refl

-- a record made of the last thing that was read
module _ {A C R S : Type 0} (f : R → S) (mk : A → R) (g : A → C) (p : Parsed A) where
  pub built : (y : C) (us : List Token) (b : S) → carry g p ≡ got y us → ((x : A) → y ≡ g x → f (mk x) ≡ b) →
      carry f (p and_then λ x us. got (mk x) us) ≡ got b us
  built y us b e k = let i = carries g p y us e in rw (i.is, k i.read i.kept)

  pub unbuilt : carry g p ≡ none → carry f (p and_then λ x us. got (mk x) us) ≡ none
  unbuilt e = rw (carries_none g p e)

pub nth_kept : (vs x : List ℕ) (n : ℕ) → vs ≡ map carried x → carried (nth x n) ≡ get_or vs n 0
nth_kept vs x n e = sym (get_or-map carried x n 0) ∙ ap (λ (l : List ℕ). get_or l n 0) (sym e)

-- ---- the last items of a form
module _ {A : Type 0} (item : List Token → Parsed A) where
  in_front : (x : A) (q : Parsed (List A)) → (q and_then λ xs ws. got (x ∷ xs) ws) ≡ ahead (x ∷ []) q
  in_front x (got xs ws) = refl
  in_front x none = refl

  pub items_closed : (k : ℕ) (ts us : List Token) → close? ts ≡ got tt us → items? k item ts ≡ got [] us
  unfolding items?
  items_closed zero ts us e = rw e
  items_closed (suc k) ts us e = rw e

  pub items_full : (ts : List Token) → close? ts ≡ none → items? 0 item ts ≡ none
  unfolding items?
  items_full ts e = rw e

  module _ (k : ℕ) (ts : List Token) (more : close? ts ≡ none) where
    pub items_stop : 0 < k → item ts ≡ none → items? k item ts ≡ none
    unfolding items?
    items_stop h e = go k h
      where
        go : (k : ℕ) → 0 < k → items? k item ts ≡ none
        go zero h = absurd (omega arith)
        go (suc k) h = rw (more, e)

    pub items_next : (x : A) (us : List Token) → 0 < k → item ts ≡ got x us → items? k item ts ≡ ahead (x ∷ []) (items? (k - 1) item us)
    unfolding items?
    items_next x us h e = go k h
      where
        go : (k : ℕ) → 0 < k → items? k item ts ≡ ahead (x ∷ []) (items? (k - 1) item us)
        go zero h = absurd (omega arith)
        go (suc k) h = let a : suc k - 1 ≡ k = omega arith in rw (more, e, a) (in_front x (items? k item us))

pub some_more : {A : Type 0} (xs : List A) (ts : List Token) → 0 < length xs → some_of xs ts ≡ got xs ts
some_more [] ts h = absurd (omega arith)
some_more (x ∷ xs) ts h = refl

-- items that are carried as they are read, or all of them behind the form
module _ {A B : Type 0} (f : A → B) (item : List Token → Parsed A) where
  abbrev pub kept : List Token → Parsed B
  kept ts = carry f (item ts)

  one_kept : (k : ℕ) → ((us : List Token) → items? k kept us ≡ carry (map f) (items? k item us)) → (c : Parsed (Unit {0})) (p : Parsed A) →
      or_else (c and_then λ u us. got [] us) (carry f p and_then λ x us. items? k kept us and_then λ xs ws. got (x ∷ xs) ws)
      ≡ carry (map f) (or_else (c and_then λ u us. got [] us) (p and_then λ x us. items? k item us and_then λ xs ws. got (x ∷ xs) ws))
  one_kept k ih (got u us) p = refl
  one_kept k ih none none = refl
  one_kept k ih none (got x us) = rw (ih us) (behind (items? k item us))
    where
      behind : (q : Parsed (List A)) → (carry (map f) q and_then λ xs ws. got (f x ∷ xs) ws) ≡ carry (map f) (q and_then λ xs ws. got (x ∷ xs) ws)
      behind (got xs ws) = refl
      behind none = refl

  pub items_kept : (k : ℕ) (ts : List Token) → items? k kept ts ≡ carry (map f) (items? k item ts)
  unfolding items?
  items_kept zero ts = by (close? ts)
    where
      empty : List Token → Parsed (List B)
      empty us = got [] us

      by : (c : Parsed (Unit {0})) → (c and_then λ u us. empty us) ≡ carry (map f) (c and_then λ u us. got [] us)
      by (got u us) = refl
      by none = refl
  items_kept (suc k) ts = one_kept k (items_kept k) (close? ts) (item ts)

  pub several_kept : (k : ℕ) (ts : List Token) → several? k kept ts ≡ carry (map f) (several? k item ts)
  several_kept k ts = rw (items_kept k ts) (some (items? k item ts))
    where
      some : (p : Parsed (List A)) → (carry (map f) p and_then some_of) ≡ carry (map f) (p and_then some_of)
      some (got [] us) = refl
      some (got (x ∷ xs) us) = refl
      some none = refl

  -- a record made of several of them
  module _ {R S : Type 0} (made : R → S) (mk : List A → R) (k : ℕ) (us : List Token) where
    pub several_built : (ys : List B) (ws : List Token) (b : S) → several? k kept us ≡ got ys ws → ((xs : List A) → ys ≡ map f xs → made (mk xs) ≡ b) →
        carry made (several? k item us and_then λ xs ws. got (mk xs) ws) ≡ got b ws
    several_built ys ws b e = built made mk (map f) (several? k item us) ys ws b (sym (several_kept k us) ∙ e)

    pub several_unbuilt : several? k kept us ≡ none → carry made (several? k item us and_then λ xs ws. got (mk xs) ws) ≡ none
    several_unbuilt e = unbuilt made mk (map f) (several? k item us) (sym (several_kept k us) ∙ e)

-- nothing stands behind the form
pub whole_end : {A : Type 0} (a : A) (ts : List Token) → is_end ts ≡ true → whole? (got a ts) ≡ Some a
unfolding is_end
whole_end a [] e = refl
whole_end a (t ∷ ts) e =
    let z : ◌≡◌ {A = ℕ} 0 1 = cc in absurd (omega arith)

pub whole_more : {A : Type 0} (a : A) (ts : List Token) → is_end ts ≡ false → whole? (got a ts) ≡ None
unfolding is_end
whole_more a [] e =
    let z : ◌≡◌ {A = ℕ} 0 1 = cc in absurd (omega arith)
whole_more a (t ∷ ts) e = refl
