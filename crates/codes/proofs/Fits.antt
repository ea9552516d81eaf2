-- What a single look row asks of a code and of its neighbour, by the row's direction.
use Prim.Native.Nat.{ℕ}
use native.Mathlib.Omega.{arith}
use mathlib.Core.Logic.{◌↔◌}
use mathlib.Core.Path.{◌≡◌, subst}
use Rattle.meaning.specs.Code.{HasFlag, HasBit, TrueIn}
use Rattle.meaning.specs.Table.{Side, Dir, down, up, Table, Row, row_at, go_row}
use Rattle.codes.specs.Fits.{FitsRow, Flagged}

-- two accounts of the same `go` row
same_way : {r : Row} {d e : Dir} {i j : ℕ} → r ≡ go_row d i → r ≡ go_row e j → d ≡ e
same_way p q = cc

same_named : {r : Row} {d e : Dir} {i j : ℕ} → r ≡ go_row d i → r ≡ go_row e j → i ≡ j
same_named p q = cc

not_both : {s z : Side} → down s ≡ up z → ⊥
not_both e = let z : ◌≡◌ {A = ℕ} 0 1 = cc in omega arith

module _ (rows : Table) (s : Side) (t u i : ℕ) where
  pub fits_forth : {k : ℕ} → row_at rows i ≡ go_row (down s) k → (HasBit rows t i ↔ TrueIn rows u k) ↔ FitsRow rows s t u i
  fits_forth {k} e = (
    λ h. record {
      forth = λ j q. subst (λ (z : ℕ). HasBit rows t i ↔ TrueIn rows u z) (same_named e q) h;
      back = λ j q. absurd (not_both (same_way e q));
    },
    λ f. f.forth k e,
  )

  pub fits_back : {k : ℕ} → row_at rows i ≡ go_row (up s) k → (HasBit rows u i ↔ TrueIn rows t k) ↔ FitsRow rows s t u i
  fits_back {k} e = (
    λ h. record {
      forth = λ j q. absurd (not_both (same_way q e));
      back = λ j q. subst (λ (z : ℕ). HasBit rows u i ↔ TrueIn rows t z) (same_named e q) h;
    },
    λ f. f.back k e,
  )

  -- a row of another direction asks nothing
  pub fits_aside : {d : Dir} {k : ℕ} → row_at rows i ≡ go_row d k → (d ≡ down s → ⊥) → (d ≡ up s → ⊥) → FitsRow rows s t u i
  fits_aside e n o = record { forth = λ j q. absurd (n (same_way e q)); back = λ j q. absurd (o (same_way e q)) }

module _ (rows : Table) (code i : ℕ) where
  pub flagged : {d : Dir} {k : ℕ} → row_at rows i ≡ go_row d k → (HasBit rows code i → HasFlag rows code d) ↔ Flagged rows code i
  flagged {d} {k} e = (λ h j z q b. subst (HasFlag rows code) (same_way e q) (h b), λ f. f k d e)
