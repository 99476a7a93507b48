-- How numbers that were read are carried. A line may say numbers up to 999,999,999; D, T and N are carried in 32 bits, all others in 16: a
-- number above 65,535 is carried as 65,535, which is above every limit of those fields too. No limit test sees the
-- difference (proofs/Kept.antt), nor do those that join numbers: a section's widths, RUN with LENGTH, LEFT with RIGHT
-- (parts/proofs/Kept.antt).
use Rattle.std.specs.Prelude.{ℕ, min}
use Rattle.items.specs.Grammar.{Parsed, got, none}

abbrev pub carried : ℕ → ℕ
carried v = min v 65535

-- what was read, as it is carried
abbrev pub carry : {A B : Type 0} → (A → B) → Parsed A → Parsed B
carry f (got a ts) = got (f a) ts
carry f none = none
