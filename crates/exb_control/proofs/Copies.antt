-- Spaces into which the channels and groups of other ones are copied.
use Rattle.std.proofs.Common.{◌≡◌, ◌≢◌, ℕ, ◌+◌, ◌<◌, ◌≤◌, ◌&&◌, true, false, List, [], Option, length, sym, ◌∙◌, ap, arith, inl, inr, nat_lt}
use Rattle.std.specs.Prelude.{slice_index_or, slice_set}
use Rattle.std.proofs.lemmas.Bool.{cases_eq}
use Rattle.std.proofs.lemmas.List.{get_or-set_same, get_or-set_other, length-set}
use Rattle.exb_model.specs.Tree.{Shape, is_cascade}
use Rattle.exb_model.specs.Setup.{Limits}
use Rattle.exb_numbers.specs.Channels.{holder}
use Rattle.exb_numbers.specs.Groups.{Groups, set_of}
use Rattle.exb_numbers.specs.Spaces.{Spaces, has_space, channels_at, groups_at, no_groups, with_channels, with_groups}
use Rattle.exb_plan.specs.SpaceContents.{HasSpaces, held_by}
use Rattle.exb_control_spec.specs.Plans.HeldNumbers.{is_place, in_spaces}
use Rattle.exb_control_spec.proofs.CascadePlaces.{placed_same, place_true}
use Rattle.exb_control.proofs.PresentSpaces.{space_parts}

-- the spaces with the channels and groups of other ones at bridge port k
abbrev pub copied : Spaces → ℕ → Spaces → Spaces
copied v k w = with_groups (with_channels w k (channels_at v k)) k (groups_at v k)

-- those of the cascade ports below place n are equal
pub record AreCopied (t : Shape) (v : Spaces) (n : ℕ) (w : Spaces) : Type 0 where
  pub channels : (k : ℕ) → k < n → is_cascade t k ≡ true → channels_at w k ≡ channels_at v k
  pub groups : (k : ℕ) → k < n → is_cascade t k ≡ true → groups_at w k ≡ groups_at v k

pub none_copied : (t : Shape) (v w : Spaces) → AreCopied t v 0 w
none_copied t v w = record { channels = λ k l c. absurd (omega arith); groups = λ k l c. absurd (omega arith) }

module _ (v w : Spaces) (k : ℕ) (there : has_space w k ≡ true) where
  channels_here : channels_at (copied v k w) k ≡ channels_at v k
  channels_here = get_or-set_same w.channels k (channels_at v k) [] (space_parts w k there).0

  groups_here : groups_at (copied v k w) k ≡ groups_at v k
  groups_here = get_or-set_same w.groups k (groups_at v k) no_groups (space_parts w k there).1

  channels_else : (j : ℕ) → j ≢ k → channels_at (copied v k w) j ≡ channels_at w j
  channels_else j other = get_or-set_other w.channels k j (channels_at v k) [] other

  groups_else : (j : ℕ) → j ≢ k → groups_at (copied v k w) j ≡ groups_at w j
  groups_else j other = get_or-set_other w.groups k j (groups_at v k) no_groups other

  same_spaces : (j : ℕ) → has_space (copied v k w) j ≡ has_space w j
  same_spaces j =
      ap (λ (n : ℕ). nat_lt j n && nat_lt j (length (slice_set w.groups k (groups_at v k))) && slice_index_or w.cascades j false) (length-set w.channels k (channels_at v k))
      ∙ ap (λ (n : ℕ). nat_lt j (length w.channels) && nat_lt j n && slice_index_or w.cascades j false) (length-set w.groups k (groups_at v k))

  pub copied_has : (t : Shape) (l : Limits) → HasSpaces t l v → HasSpaces t l w → HasSpaces t l (copied v k w)
  copied_has t l from has = record {
    spaces = λ j. same_spaces j ∙ has.spaces j;
    channels = λ j e. elim (cases_eq j k) [
      | inl here ↦ ap (λ (i : ℕ). length (channels_at (copied v k w) i)) here ∙ (ap length channels_here ∙ from.channels k (from.spaces k ∙ (sym (has.spaces k) ∙ there)))
      | inr other ↦ ap length (channels_else j other) ∙ has.channels j (sym (same_spaces j) ∙ e)
    ];
    groups = λ j e. elim (cases_eq j k) [
      | inl here ↦ ap (λ (i : ℕ). (groups_at (copied v k w) i).limit) here ∙ (ap (λ (g : Groups). g.limit) groups_here ∙ from.groups k (from.spaces k ∙ (sym (has.spaces k) ∙ there)))
      | inr other ↦ ap (λ (g : Groups). g.limit) (groups_else j other) ∙ has.groups j (sym (same_spaces j) ∙ e)
    ];
  }

  pub more_copied : (t : Shape) → AreCopied t v k w → AreCopied t v (k + 1) (copied v k w)
  more_copied t are = record {
    channels = λ j l c. elim (cases_eq j k) [
      | inl here ↦ ap (channels_at (copied v k w)) here ∙ (channels_here ∙ ap (channels_at v) (sym here))
      | inr other ↦ channels_else j other ∙ are.channels j (omega (arith, l, other)) c
    ];
    groups = λ j l c. elim (cases_eq j k) [
      | inl here ↦ ap (groups_at (copied v k w)) here ∙ (groups_here ∙ ap (groups_at v) (sym here))
      | inr other ↦ groups_else j other ∙ are.groups j (omega (arith, l, other)) c
    ];
  }

-- a bridge port that is no cascade port
pub none_more : (t : Shape) (v w : Spaces) (k : ℕ) → k < 64 → is_place t k ≡ false → AreCopied t v k w → AreCopied t v (k + 1) w
none_more t v w k low off are = record {
  channels = λ j l c. elim (cases_eq j k) [ inl here ↦ absurd (never j c here) | inr other ↦ are.channels j (omega (arith, l, other)) c ];
  groups = λ j l c. elim (cases_eq j k) [ inl here ↦ absurd (never j c here) | inr other ↦ are.groups j (omega (arith, l, other)) c ];
}
  where
    false_true : false ≡ true → ⊥
    false_true e = cc

    never : (j : ℕ) → is_cascade t j ≡ true → j ≡ k → ⊥
    never j c here = false_true (sym off ∙ place_true t k low (ap (is_cascade t) (sym here) ∙ c))

-- in the end the same is held
pub copied_same : (t : Shape) (v w : Spaces) (n : ℕ) → 64 ≤ n → AreCopied t v n w → in_spaces t (held_by w) ≡ in_spaces t (held_by v)
copied_same t v w n end are =
    placed_same t (held_by v) (held_by w) (record {
      port = λ k c low e. ap (λ (x : List (Option ℕ)). holder x c) (are.channels k (omega (arith, low, end)) e);
      set = λ k g low e. ap (λ (x : Groups). set_of x g) (are.groups k (omega (arith, low, end)) e);
    })
