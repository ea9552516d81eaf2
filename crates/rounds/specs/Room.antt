-- Each of the three slices that the rounds fill has a place for every one of c codes.
use Rattle.std.specs.Prelude.{ℕ, ◌≤◌, List, length}

pub record Room (c : ℕ) (round firsts nexts : List ℕ) : Type 0 where
  pub room_round : c ≤ length round
  pub room_first : c ≤ length firsts
  pub room_next : c ≤ length nexts
