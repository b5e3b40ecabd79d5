-- The words of one direction of a link, as a list in order of sending.
use Rattle.std.specs.Prelude.{ℕ, suc, ◌-◌, ◌==◌, Bool, not, if◌then◌else◌, List, [], ◌∷◌}
use Rattle.exb_model.specs.Frames.{is_control_frame}
use Rattle.exb_link.specs.declared.link_frame.LinkFrame.{LinkFrame}

abbrev pub is_control : LinkFrame → Bool
is_control w = is_control_frame w.bytes

abbrev pub is_data : LinkFrame → Bool
is_data w = not (is_control w)

-- how many control words stand before the first data word
abbrev pub leading : List LinkFrame → ℕ
leading [] = 0
leading (w ∷ ws) = if is_control w then suc (leading ws) else 0

-- the words without the first data word
abbrev pub without_data : List LinkFrame → List LinkFrame
without_data [] = []
without_data (w ∷ ws) = if is_control w then w ∷ without_data ws else ws

-- the words without the control word number k, counted from 0
abbrev pub without_control : List LinkFrame → ℕ → List LinkFrame
without_control [] k = []
without_control (w ∷ ws) k =
    if is_control w then (if k == 0 then ws else w ∷ without_control ws (k - 1)) else w ∷ without_control ws k
