-- A link kept as two queues: its data words, each with how many control words were sent right behind it,
-- and its control words.
use Rattle.std.specs.Prelude.{◌≡◌, ℕ, ◌+◌, ◌-◌, true, nat_lt, if◌then◌else◌, List, [], ◌∷◌, ◌++◌, Option, Some, None, length, take, drop, All}
use Rattle.exb_link.specs.declared.link_frame.LinkFrame.{LinkFrame}
use Rattle.exb_link.specs.declared.link.QueuedFrame.{QueuedFrame}
use Rattle.exb_link.specs.LinkFrames.{is_control, is_data}

-- the words in order of sending, where so many control words stand ahead of the first data word
unfoldable pub woven : ℕ → List QueuedFrame → List LinkFrame → List LinkFrame
woven ahead [] control = control
woven ahead (s ∷ frames) control = take ahead control ++ s.word ∷ woven s.behind frames (drop ahead control)

-- how many control words stand behind data words
unfoldable pub all_behind : List QueuedFrame → ℕ
all_behind [] = 0
all_behind (s ∷ frames) = s.behind + all_behind frames

-- each word stands in its queue, and the counts tell of all control words
pub record IsWoven (ahead : ℕ) (frames : List QueuedFrame) (control : List LinkFrame) : Type 0 where
  pub frames_only : All (λ (s : QueuedFrame). is_data s.word ≡ true) frames
  pub control_only : All (λ w. is_control w ≡ true) control
  pub counted : ahead + all_behind frames ≡ length control

-- ---- a control word more, behind all others
abbrev pub more_ahead : ℕ → List QueuedFrame → ℕ
more_ahead ahead [] = ahead + 1
more_ahead ahead (s ∷ frames) = ahead

unfoldable pub more_behind : List QueuedFrame → List QueuedFrame
more_behind [] = []
more_behind (s ∷ []) = record s { behind = s.behind + 1 } ∷ []
more_behind (s ∷ t ∷ frames) = s ∷ more_behind (t ∷ frames)

-- ---- a control word less, number k of those behind data words
unfoldable pub less_behind : ℕ → List QueuedFrame → List QueuedFrame
less_behind k [] = []
less_behind k (s ∷ frames) =
    if nat_lt k s.behind then record s { behind = s.behind - 1 } ∷ frames else s ∷ less_behind (k - s.behind) frames

-- the place, counted from i, of the data word behind which it stands
abbrev pub place_from : ℕ → List QueuedFrame → ℕ → Option ℕ
place_from k [] i = None
place_from k (s ∷ frames) i = if nat_lt k s.behind then Some i else place_from (k - s.behind) frames (i + 1)
