-- Elements of a list asked and changed by their places.
use Rattle.std.specs.Prelude.{◌≡◌, ℕ, ◌<◌, ◌≤◌, Bool, true, false, List, length, get_or}
use Rattle.record.specs.Tables.{byte_values}

-- r is the place of a byte in a table that has one for each
pub record PlaceFor (byte r : ℕ) : Type 0 where
  pub so : r ≡ byte
  pub below : r < byte_values

-- r says whether one of the places from a up to b passes
pub record SomeBetween (p : ℕ → Bool) (a b : ℕ) (r : Bool) : Type 0 where
  pub ordered : a ≤ b
  pub some : r ≡ true → (k : ℕ) × (a ≤ k) × (k < b) × (p k ≡ true)
  pub none : r ≡ false → (k : ℕ) → a ≤ k → k < b → p k ≡ false

-- ys has the elements of xs, those from a up to b made anew with their places
module _ {ℓ} {A : Type ℓ} where
  pub record Changed (d : A) (f : ℕ → A → A) (a b : ℕ) (xs ys : List A) : Type ℓ where
    pub ordered : a ≤ b
    pub size : length ys ≡ length xs
    pub before : (k : ℕ) → k < a → get_or ys k d ≡ get_or xs k d
    pub inside : (k : ℕ) → a ≤ k → k < b → get_or ys k d ≡ f k (get_or xs k d)
    pub after : (k : ℕ) → b ≤ k → get_or ys k d ≡ get_or xs k d
