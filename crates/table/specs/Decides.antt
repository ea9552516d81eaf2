-- A test and the statement that it decides.
use Rattle.std.specs.Prelude.{Bool, true, ◌≡◌}

pub record Decides (b : Bool) (P : Type 0) : Type 0 where
  pub sound : b ≡ true → P
  pub complete : P → b ≡ true
