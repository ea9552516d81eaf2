-- A link is read as it is written: what is taken off a text is `-` or a number of at most three digits as it is written, and a written link is
-- taken again.
use mathlib.Core.Path.{◌≡◌, refl, ap, sym, subst, ◌∙◌}
use mathlib.Core.List.{List, [], ◌∷◌, ◌++◌, append_assoc}
use mathlib.Core.Bool.{Bool, true, false, cond}
use Prim.Native.Nat.{ℕ, ◌+◌, ◌*◌, ◌/◌, ◌%◌, ◌<◌, ◌≤◌, ◌-◌}
use native.Mathlib.Omega.{arith}
use lib.Dec.{eqb, ltb}
use borrow.Author.Tests.{eqb-true, ltb-true, ltb-false, lt-ltb, le-ltb}
use Rattle.table.specs.Written.{tab, decimal}
use Rattle.reader.specs.Parts.{Taken, taken, nothing, ◌then◌, byte_in, digit, second, number_in}
use Rattle.reader.proofs.Numbers.{digit_is, digit_fits, second-digit, number_read, number_taken, then_taken, byte_taken}
use Rattle.std.specs.Prelude.{None, Some}
use Rattle.sheets.specs.Lines.{Link, Linkable}
use Rattle.sheets.specs.Written.{numeral, written_link}
use Rattle.sheets.specs.Parts.{◌or◌, third, to_in, link_in, field_in}

-- no digit stands at the front
abbrev pub NoDigit : List ℕ → Type 0
NoDigit s = (m : ℕ) → second m s ≡ taken m s

-- three digits are two and a third
pub two_digits : (k : ℕ) → k < 100 → numeral k ≡ decimal k
unfolding numeral
two_digits k h = rw (lt-ltb k 100 h)

three_digits : (n x : ℕ) → 10 ≤ n → n < 100 → 48 ≤ x → x ≤ 57 → numeral (n * 10 + (x - 48)) ≡ decimal n ++ (x ∷ [])
unfolding numeral decimal
three_digits n x l h i j =
    let k = n * 10 + (x - 48) in
    let p : 100 ≤ k = omega arith in
    let a : 48 + k / 100 ≡ 48 + n / 10 = omega arith in
    let b : 48 + k / 10 % 10 ≡ 48 + n % 10 = omega arith in
    let d : 48 + k % 10 ≡ x = omega arith in
    rw (le-ltb k 100 p, le-ltb n 10 l, a, b, d)

pub third-digit : (n x : ℕ) (s : List ℕ) → 10 ≤ n → digit x ≡ true → third n (x ∷ s) ≡ taken (Some (n * 10 + (x - 48))) s
third-digit n x s l d = rw (le-ltb n 10 l, second-digit x s n d)

pub third_none : (n : ℕ) (s : List ℕ) → NoDigit s → third n s ≡ taken (Some n) s
third_none n s f = at (ltb n 10)
  where
    at : (t : Bool) → (cond t (taken n s) (second n s) then (λ k rest. taken (Some k) rest)) ≡ taken (Some n) s
    at true = refl
    at false = rw (f n)

-- a written line number, and a rest with no further digit
to_read : (k : ℕ) (rest : List ℕ) → k < 1000 → NoDigit rest → to_in (numeral k ++ rest) ≡ taken (Some k) rest
to_read k rest h f = at (ltb k 100) refl
  where
    at : (t : Bool) → ltb k 100 ≡ t → to_in (numeral k ++ rest) ≡ taken (Some k) rest
    at true e =
        let l : k < 100 = ltb-true k 100 e in
        rw (two_digits k l, number_read k rest l (λ _. f)) (third_none k rest f)
    at false e =
        let l : 100 ≤ k = ltb-false k 100 e in
        let n = k / 10 in
        let x = 48 + k % 10 in
        let a : n < 100 = omega arith in
        let b : 10 ≤ n = omega arith in
        let q : n * 10 + (x - 48) ≡ k = omega arith in
        let w : numeral k ≡ decimal n ++ (x ∷ []) = subst (λ (j : ℕ). numeral j ≡ decimal n ++ (x ∷ [])) q (three_digits n x b a (omega arith) (omega arith)) in
        let t : third n (x ∷ rest) ≡ taken (Some k) rest = subst (λ (j : ℕ). third n (x ∷ rest) ≡ taken (Some j) rest) q (third-digit n x rest b (digit_is x (omega arith) (omega arith))) in
        rw (w, append_assoc (decimal n) (x ∷ []) rest, number_read n (x ∷ rest) a (λ z. absurd (omega arith))) t

-- what is taken is a line number as it is written
pub record LinkTaken (s : List ℕ) (l : Link) (rest : List ℕ) : Type 0 where
  pub short : Linkable l
  pub split : s ≡ written_link l ++ rest

third_taken : (n : ℕ) (s : List ℕ) (l : Link) (rest : List ℕ) → n < 100 → third n s ≡ taken l rest → LinkTaken (decimal n ++ s) l rest
third_taken n s l rest h e = by_size (ltb n 10) refl e
  where
    got : (k : ℕ) (r : List ℕ) → taken (Some k) r ≡ taken l rest → k < 1000 → decimal n ++ s ≡ numeral k ++ r → LinkTaken (decimal n ++ s) l rest
    got k r p i w =
        let a : Some k ≡ l = cc in
        let b : r ≡ rest = cc in
        subst (λ (x : Link). LinkTaken (decimal n ++ s) x rest) a (record { short = i; split = w ∙ ap (λ (x : List ℕ). numeral k ++ x) b })

    same : taken (Some n) s ≡ taken l rest → LinkTaken (decimal n ++ s) l rest
    same p = got n s p (omega arith) (rw (two_digits n h))

    by_second : 10 ≤ n → (t : List ℕ) → s ≡ t → (second n t then (λ k end. taken (Some k) end)) ≡ taken l rest → LinkTaken (decimal n ++ s) l rest
    by_second i [] q p = same (rw q p)
    by_second i (x ∷ t) q p = by_digit (digit x) refl p
      where
        by_digit : (b : Bool) → digit x ≡ b → (cond b (taken (n * 10 + (x - 48)) t) (taken n (x ∷ t)) then (λ k end. taken (Some k) end)) ≡ taken l rest → LinkTaken (decimal n ++ s) l rest
        by_digit true d p =
            let f = digit_fits x d in
            got (n * 10 + (x - 48)) t p (omega arith) (rw (q, three_digits n x i h f.0 f.1, append_assoc (decimal n) (x ∷ []) t))
        by_digit false d p = same (rw q p)

    by_size : (b : Bool) → ltb n 10 ≡ b → (cond b (taken n s) (second n s) then (λ k end. taken (Some k) end)) ≡ taken l rest → LinkTaken (decimal n ++ s) l rest
    by_size true b p = same p
    by_size false b p = by_second (ltb-false n 10 b) s refl p

to_taken : (s : List ℕ) (l : Link) (rest : List ℕ) → to_in s ≡ taken l rest → LinkTaken s l rest
to_taken s l rest e =
    let t = then_taken (number_in s) third e in
    let n = number_taken s t.0 t.1 t.2 in
    subst (λ (x : List ℕ). LinkTaken x l rest) (sym n.0) (third_taken t.0 t.1 l rest n.1 t.3)

-- a number is no dash
no_dash : (s : List ℕ) {l : Link} {rest : List ℕ} → to_in s ≡ taken l rest → byte_in 45 s ≡ nothing
no_dash [] e = refl
no_dash (x ∷ s) {l} {rest} e = at (eqb x 45) refl
  where
    at : (b : Bool) → eqb x 45 ≡ b → cond {A = Taken ℕ} b (taken 45 s) nothing ≡ nothing
    at true h =
        let n : to_in (45 ∷ s) ≡ taken l rest = subst (λ (y : ℕ). to_in (y ∷ s) ≡ taken l rest) (eqb-true x 45 h) e in
        cc
    at false h = refl

pub link_read : (l : Link) (rest : List ℕ) → Linkable l → NoDigit rest → link_in (written_link l ++ rest) ≡ taken l rest
link_read None rest h f = refl
link_read (Some k) rest h f = let t = to_read k rest h f in rw (no_dash (numeral k ++ rest) t) t

link_taken : (s : List ℕ) (l : Link) (rest : List ℕ) → link_in s ≡ taken l rest → LinkTaken s l rest
link_taken s l rest e = at (byte_in 45 s) refl e
  where
    at : (t : Taken ℕ) → byte_in 45 s ≡ t → ((t then (λ _ end. taken None end)) or to_in s) ≡ taken l rest → LinkTaken s l rest
    at (taken b r) q p =
        let w : s ≡ 45 ∷ r = byte_taken 45 s b r q in
        let d : None ≡ l = cc in
        let f : r ≡ rest = cc in
        subst (λ (x : Link). LinkTaken s x rest) d (record { short = tt; split = w ∙ ap (λ (x : List ℕ). 45 ∷ x) f })
    at nothing q p = to_taken s l rest p

pub field_taken : (s : List ℕ) (l : Link) (rest : List ℕ) → field_in s ≡ taken l rest → Linkable l × (s ≡ tab ∷ (written_link l ++ rest))
field_taken s l rest e =
    let t = then_taken (byte_in tab s) _ e in
    let k = link_taken t.1 l rest t.3 in
    (k.short, byte_taken tab s t.0 t.1 t.2 ∙ ap (λ (x : List ℕ). tab ∷ x) k.split)
