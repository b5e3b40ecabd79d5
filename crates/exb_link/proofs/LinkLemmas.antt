-- How links begin: nothing is on any of them.
use Rattle.std.proofs.Common.{◌≡◌, ℕ, List, [], length, ap}
use Rattle.exb_link.specs.declared.link_frame.LinkFrame.{LinkFrame}
use Rattle.exb_link.specs.Links.{words_of, IsNoted}
use Rattle.exb_model.proofs.DeviceSets.{none_in_0}
use Rattle.exb_model.proofs.NumberedTables.{alike}

pub none_busy : (links : List (List LinkFrame)) → length links ≡ 65 → words_of links ≡ alike [] → IsNoted links 0
none_busy links sized all = record { sized = sized; noted = λ n. (λ e. ap (λ (f : ℕ → List LinkFrame). f n) all, λ e. none_in_0 n) }
