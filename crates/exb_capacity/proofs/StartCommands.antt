-- The commands of a start make no port present or absent.
use Rattle.std.proofs.Common.{◌≡◌, ℕ, suc, Bool, List, [], ◌∷◌, fold, All, refl, ap, ◌∙◌, arith}
use mathlib.Core.Path.{fun_ext}
use Rattle.exb_model.specs.declared.command.Command.{Command}
use Rattle.exb_model.specs.declared.command.Command.TheVariants as command
use Rattle.exb_model.specs.declared.setup.Setup.{Setup}
use Rattle.exb_model.specs.Configuration.{Bridge, after, empty_bridge}
use Rattle.exb_model.specs.Tree.{Shape, is_external}
use Rattle.exb_model.specs.Setup.{IsStart, IsValid, shape_of, start_of}
use Rattle.exb_capacity.specs.NeededNumbers.{opened}

abbrev with_present : (ℕ → Bool) → Bridge → Bridge
with_present p b = record b { present = p }

step : (t : Shape) (c : Command) → IsStart t c → (b : Bridge) (p : ℕ → Bool) → after c (with_present p b) ≡ with_present p (after c b)
step t (command.Vlan v tagged untagged) is b p = refl
step t (command.Member v q kind) is b p = refl
step t (command.Unmember v q) is b p = refl
step t (command.Pvid q v) is b p = refl
step t (command.Accept q types) is b p = refl
step t (command.Filter q on) is b p = refl
step t (command.Isolate q on) is b p = refl
step t (command.Static v m ports) is b p = refl
step t (command.Unstatic v m) is b p = refl
step t (command.Up q) is b p = absurd is
step t (command.Down q) is b p = absurd is

steps : (t : Shape) (cs : List Command) → All (IsStart t) cs → (b : Bridge) (p : ℕ → Bool) →
    fold (λ k c. after c k) (with_present p b) cs ≡ with_present p (fold (λ k c. after c k) b cs)
steps t [] all b p = refl
steps t (c ∷ cs) all b p =
    ap (λ k. fold (λ j d. after d j) k cs) (step t c (all 0 c (omega arith)) b p)
    ∙ steps t cs (λ k d l. all (suc k) d (omega arith)) (after c b) p

-- what the commands make where all external ports are present from the first
pub opened_is : (s : Setup) → IsValid s → (p : ℕ → Bool) → ((q : ℕ) → p q ≡ is_external (shape_of s) q) → (b : Bridge) →
    b ≡ fold (λ k c. after c k) (empty_bridge p) s.start → b ≡ opened s
unfolding start_of
opened_is s valid p is b made =
    made
    ∙ (ap (λ (r : ℕ → Bool). fold (λ k c. after c k) (empty_bridge r) s.start) (fun_ext is)
    ∙ steps (shape_of s) s.start valid.start _ (is_external (shape_of s)))
