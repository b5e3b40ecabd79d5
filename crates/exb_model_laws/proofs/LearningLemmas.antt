-- What an event makes of what is remembered.
use Rattle.std.proofs.Common.{◌≡◌, ℕ, List, ◌∷◌, ap, sym, ◌∙◌}
use Rattle.std.specs.Prelude.{if◌then◌else◌, Option, Some}
use Rattle.exb_model.specs.declared.event.Event.{Event}
use Rattle.exb_model.specs.declared.event.Event.TheVariants as event
use Rattle.exb_model.specs.Configuration.{Bridge}
use Rattle.exb_model.specs.History.{Basis, History, command_of, bridge_after, now_after}
use Rattle.exb_model.specs.Learning.{teaches, is_down_of, kept_unless, remembered}
use Rattle.exb_model.proofs.LearningSteps.{remembered-relay, remembered-other, kept_unless-none}

-- where and when VLAN v and address m were seen last, after an event in this configuration at this time,
-- from what it was before
abbrev pub place_after : Basis → Bridge → ℕ → Event → ℕ → List ℕ → Option (ℕ × ℕ) → Option (ℕ × ℕ)
place_after i k now (event.Relay p n t f) v m place = if teaches k p f v m then Some (p, now) else place
place_after i k now (event.Commit n) v m place = kept_unless (λ p. is_down_of p (command_of i n)) place
place_after i k now _ v m place = place

pub remembered-more : (i : Basis) (h : History) (e : Event) (v : ℕ) (m : List ℕ) →
    remembered i (e ∷ h) v m ≡ place_after i (bridge_after i h) (now_after h) e v m (remembered i h v m)
remembered-more i h (event.Relay p n t f) v m = remembered-relay i h p n t f v m
remembered-more i h (event.Commit n) v m = remembered-other i h (event.Commit n) v m tt
remembered-more i h e v m = remembered-other i h e v m tt ∙ kept_unless-none (remembered i h v m)

-- what is remembered after an event, from what is so before it
pub remembered-follows : (i : Basis) (h : History) (e : Event) (v : ℕ) (m : List ℕ) (k : Bridge) (now : ℕ) (place : Option (ℕ × ℕ)) →
    k ≡ bridge_after i h → now ≡ now_after h → place ≡ remembered i h v m → place_after i k now e v m place ≡ remembered i (e ∷ h) v m
remembered-follows i h e v m k now place bridge clock was =
    ap (λ (b : Bridge). place_after i b now e v m place) bridge
    ∙ ap (λ (n : ℕ). place_after i (bridge_after i h) n e v m place) clock
    ∙ ap (place_after i (bridge_after i h) (now_after h) e v m) was
    ∙ sym (remembered-more i h e v m)
