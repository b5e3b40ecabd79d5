-- One direction of all links.
use Rattle.std.specs.Prelude.{◌≡◌, ◌≢◌, ◌↔◌, ℕ, ◌<◌, ◌≤◌, List, [], length, slice_index_or}
use Rattle.exb_link.specs.declared.link_frame.LinkFrame.{LinkFrame}
use Rattle.exb_model.specs.DeviceSets.{number_in}

-- the words on the link of extender n, in order of sending
abbrev pub words_of : List (List LinkFrame) → ℕ → List LinkFrame
words_of links n = slice_index_or links n []

-- there is a link for each device, and exactly those that have a word are noted by their bits
pub record IsNoted (links : List (List LinkFrame)) (busy : ℕ) : Type 0 where
  pub sized : length links ≡ 65
  pub noted : (n : ℕ) → (number_in busy n ≡ 0) ↔ (words_of links n ≡ [])

-- the link of extender n is the first, from a number on, that has a word
pub record IsNextBusy (links : List (List LinkFrame)) (from n : ℕ) : Type 0 where
  pub low : n < 65
  pub start : from ≤ n
  pub busy : words_of links n ≢ []
  pub before : (k : ℕ) → from ≤ k → k < n → words_of links k ≡ []
