-- The table of a bridge over a history.
use Rattle.std.proofs.Common.{◌≡◌, ℕ, ◌+◌, Bool, true, false, cond, ◌&&◌, ◌==◌, nat_lt, List, [], ◌∷◌, refl, sym, ap, ◌∙◌, add-zero}
use Rattle.std.specs.Prelude.{Option, Some, None, bytes_eq}
use Rattle.exb_model.specs.declared.command.Command.{Command}
use Rattle.exb_model.specs.declared.command.Command.TheVariants as command
use Rattle.exb_model.specs.declared.event.Event.{Event}
use Rattle.exb_model.specs.declared.event.Event.TheVariants as event
use Rattle.exb_model.specs.Frames.{source, is_group}
use Rattle.exb_model.specs.History.{Basis, History, command_of, bridge_after, now_after}
use Rattle.exb_model.specs.Learning.{passes, teaches_in, kept_unless, is_down_of, remembered, learned}
use Rattle.exb_model.proofs.LearningSteps.{remembered-none, remembered-relay, remembered-other, kept_unless-none}
use Rattle.exb_learn.specs.Calls.{See, Table, if_live, port_of, look_in}
use Rattle.exb_learn.proofs.AgeingLemmas.{see_live, later_live, still_live, forget_live, port_of_live}
use Rattle.exb_learn.specs.Histories.{relay_call, command_call, after_any, table_after}

pub record Follows (i : Basis) (h : History) (t : Table) : Type 0 where
  pub ageing_is : t.ageing ≡ i.ageing
  pub clock_is : t.clock ≡ now_after h
  pub seen_is : (v : ℕ) (m : List ℕ) → t.seen v m ≡ if_live (now_after h) i.ageing (remembered i h v m)

-- an event that takes no time and after which nothing is seen or forgotten
still : (i : Basis) (h : History) (e : Event) (t : Table) → Follows i h t → now_after (e ∷ h) ≡ now_after h + 0 →
    ((v : ℕ) (m : List ℕ) → remembered i (e ∷ h) v m ≡ kept_unless (λ p. false) (remembered i h v m)) → Follows i (e ∷ h) t
still i h e t f now same = record {
  ageing_is = f.ageing_is;
  clock_is = f.clock_is ∙ sym (now ∙ add-zero (now_after h));
  seen_is = λ v m.
      f.seen_is v m ∙ ap (if_live (now_after h) i.ageing) (sym (same v m ∙ kept_unless-none (remembered i h v m)))
      ∙ ap (λ (x : ℕ). if_live x i.ageing (remembered i (e ∷ h) v m)) (sym (now ∙ add-zero (now_after h)));
}

relayed : (t : Table) (p now ageing : ℕ) (f : List ℕ) (v : ℕ) (m : List ℕ) (o : Option ℕ) (group : Bool) (old : Option (ℕ × ℕ)) → t.ageing ≡ ageing → t.clock ≡ now → is_group (source f) ≡ group →
    t.seen v m ≡ if_live now ageing old → (after_any (relay_call p f o) t).seen v m ≡ if_live now ageing (cond (teaches_in o f v m) (Some (p, now)) old)
relayed t p now ageing f v m None group old aged clock is same = same
relayed t p now ageing f v m (Some w) true old aged clock is same = rw is (by_key (w == v && bytes_eq (source f) m))
  where
    by_key : (b : Bool) → t.seen v m ≡ if_live now ageing (cond (b && false) (Some (p, now)) old)
    by_key true = same
    by_key false = same
relayed t p now ageing f v m (Some w) false old aged clock is same =
    rw is
    (ap (λ (x : ℕ). cond (nat_lt 0 x && (w == v && bytes_eq (source f) m)) (Some (p, t.clock)) (t.seen v m)) aged
    ∙ ap (λ (x : ℕ). cond (nat_lt 0 ageing && (w == v && bytes_eq (source f) m)) (Some (p, x)) (t.seen v m)) clock
    ∙ ap (λ (x : Option (ℕ × ℕ)). cond (nat_lt 0 ageing && (w == v && bytes_eq (source f) m)) (Some (p, now)) x) same
    ∙ see_live now ageing p (w == v && bytes_eq (source f) m) old
    ∙ ap (if_live now ageing) (by_key (w == v && bytes_eq (source f) m)))
  where
    by_key : (b : Bool) → cond b (Some (p, now)) old ≡ cond (b && true) (Some (p, now)) old
    by_key true = refl
    by_key false = refl

-- the clock and the ageing time stay
record Stays (t u : Table) : Type 0 where
  ageing : u.ageing ≡ t.ageing
  clock : u.clock ≡ t.clock

relay_stays : (t : Table) (p : ℕ) (f : List ℕ) (o : Option ℕ) → Stays t (after_any (relay_call p f o) t)
relay_stays t p f None = record { ageing = refl; clock = refl }
relay_stays t p f (Some w) = by_group (is_group (source f))
  where
    by_group : (b : Bool) → Stays t (after_any (cond b None (Some (See w (source f) p))) t)
    by_group true = record { ageing = refl; clock = refl }
    by_group false = record { ageing = refl; clock = refl }

command_stays : (t : Table) (o : Option Command) → Stays t (after_any (command_call o) t)
command_stays t None = record { ageing = refl; clock = refl }
command_stays t (Some (command.Down q)) = record { ageing = refl; clock = refl }
command_stays t (Some c) = record { ageing = refl; clock = refl }

command_seen : (t : Table) (o : Option Command) (v : ℕ) (m : List ℕ) → (after_any (command_call o) t).seen v m ≡ kept_unless (λ p. is_down_of p o) (t.seen v m)
command_seen t None v m = sym (kept_unless-none (t.seen v m))
command_seen t (Some (command.Down q)) v m = refl
command_seen t (Some c) v m = sym (kept_unless-none (t.seen v m))

pub follows : (i : Basis) (h : History) → Follows i h (table_after i h)
unfolding table_after now_after
follows i [] = record { ageing_is = refl; clock_is = refl; seen_is = λ v m. ap (if_live (now_after []) i.ageing) (sym (remembered-none i v m)) }
follows i (event.Relay p n t f ∷ h) =
    let before = follows i h in
    record {
      ageing_is = (relay_stays (table_after i h) p f (passes (bridge_after i h) p f)).ageing ∙ before.ageing_is;
      clock_is = (relay_stays (table_after i h) p f (passes (bridge_after i h) p f)).clock ∙ before.clock_is ∙ sym (add-zero (now_after h));
      seen_is = λ v m.
          relayed (table_after i h) p (now_after h) i.ageing f v m (passes (bridge_after i h) p f) (is_group (source f)) (remembered i h v m) before.ageing_is before.clock_is refl (before.seen_is v m)
          ∙ ap (if_live (now_after h) i.ageing) (sym (remembered-relay i h p n t f v m))
          ∙ sym (still_live (now_after h) i.ageing (remembered i (event.Relay p n t f ∷ h) v m));
    }
follows i (event.Tick seconds ∷ h) =
    let before = follows i h in
    record {
      ageing_is = before.ageing_is;
      clock_is = ap (λ (x : ℕ). x + seconds) before.clock_is;
      seen_is = λ v m.
          ap (λ (x : ℕ). if_live (x + seconds) (table_after i h).ageing ((table_after i h).seen v m)) before.clock_is
          ∙ ap (λ (x : ℕ). if_live (now_after h + seconds) x ((table_after i h).seen v m)) before.ageing_is
          ∙ ap (if_live (now_after h + seconds) i.ageing) (before.seen_is v m)
          ∙ later_live (now_after h) seconds i.ageing (remembered i h v m)
          ∙ ap (if_live (now_after h + seconds) i.ageing) (sym (remembered-other i h (event.Tick seconds) v m tt ∙ kept_unless-none (remembered i h v m)));
    }
follows i (event.Commit n ∷ h) =
    let before = follows i h in
    let stays = command_stays (table_after i h) (command_of i n) in
    record {
      ageing_is = stays.ageing ∙ before.ageing_is;
      clock_is = stays.clock ∙ before.clock_is ∙ sym (add-zero (now_after h));
      seen_is = λ v m.
          command_seen (table_after i h) (command_of i n) v m ∙ ap (kept_unless (λ p. is_down_of p (command_of i n))) (before.seen_is v m)
          ∙ forget_live (λ p. is_down_of p (command_of i n)) (now_after h) i.ageing (remembered i h v m)
          ∙ ap (if_live (now_after h) i.ageing) (sym (remembered-other i h (event.Commit n) v m tt))
          ∙ sym (still_live (now_after h) i.ageing (remembered i (event.Commit n ∷ h) v m));
    }
follows i (event.Ignored p n ∷ h) = still i h (event.Ignored p n) (table_after i h) (follows i h) refl (λ v m. remembered-other i h (event.Ignored p n) v m tt)
follows i (event.Refuse n c ∷ h) = still i h (event.Refuse n c) (table_after i h) (follows i h) refl (λ v m. remembered-other i h (event.Refuse n c) v m tt)
follows i (event.Up p ∷ h) = still i h (event.Up p) (table_after i h) (follows i h) refl (λ v m. remembered-other i h (event.Up p) v m tt)
follows i (event.NoUp p c ∷ h) = still i h (event.NoUp p c) (table_after i h) (follows i h) refl (λ v m. remembered-other i h (event.NoUp p c) v m tt)
follows i (event.Settled ∷ h) = still i h event.Settled (table_after i h) (follows i h) refl (λ v m. remembered-other i h event.Settled v m tt)

pub looks_learned : (i : Basis) (h : History) (v : ℕ) (m : List ℕ) → look_in (table_after i h) v m ≡ learned i h v m
unfolding learned
looks_learned i h v m = ap port_of ((follows i h).seen_is v m) ∙ port_of_live (now_after h) i.ageing (remembered i h v m)
