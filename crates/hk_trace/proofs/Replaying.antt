-- A history once more, line by line.

-- what is known of a machine on its way through a history
pub record Replaying (sound machine writings : Type 0) : Type 0 where
  pub is_sound : sound
  pub leads : machine
  pub keeps : writings
