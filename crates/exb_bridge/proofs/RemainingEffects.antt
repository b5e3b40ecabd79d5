-- Effects are done one after another.
use Rattle.std.proofs.Common.{◌≡◌, ℕ, Bool, suc, ◌+◌, ◌<◌, ◌≤◌, List, [], ◌∷◌, ◌++◌, length, get_or, map, drop, refl, ap, sym, subst, ◌∙◌, add-one, drop-cons}
use Rattle.std.proofs.lemmas.List.{append-nil, append_assoc, drop_all, map-append}
use Rattle.std.proofs.lemmas.List.Elements.{filter-append}
use Rattle.exb_model.specs.Traces.{TraceLine}
use Rattle.exb_world_spec.specs.TraceLines.{all_told, told as told_line}
use Rattle.exb_world_spec.specs.Worlds.{World, Line}
use Rattle.exb_world_spec.specs.Effects.{Effect, only, joined, then_do, each}
use Rattle.exb_outbox.specs.declared.log.Log.{Log}
use Rattle.exb_bridge.specs.BridgeWorlds.{Whole}
use Rattle.exb_bridge.specs.TreeIndexes.{Site}
use Rattle.exb_outbox.specs.Logs.{if_tracing}
use Rattle.exb_bridge.specs.BridgeWorlds.{world_in, all_left, IsAt, Does}
use Rattle.exb_bridge.specs.RemainingEffects.{Leads}

-- nothing is done yet
pub leads_first : (e : Effect) (old : Log) → Leads e e old old
leads_first e old = record { world = refl; events = refl; passed = refl; left = refl; outs = refl; lines = refl; tracing = refl }

joins : {A : Type 0} (told more rest whole : List A) (mid : List A) → mid ≡ told ++ more → told ++ (more ++ rest) ≡ whole → mid ++ rest ≡ whole
joins told more rest whole mid is h = ap (λ xs. xs ++ rest) is ∙ append_assoc told more rest ∙ h

-- the lines of one thing after another
abbrev traced : Bool → List Line → List TraceLine
traced tracing ls = if_tracing tracing (all_told ls)

traced_parts : (tracing : Bool) (xs ys : List Line) → traced tracing (xs ++ ys) ≡ traced tracing xs ++ traced tracing ys
traced_parts tracing xs ys = ap (if_tracing tracing) (map-append told_line xs ys) ∙ filter-append (λ line. tracing) (all_told xs) (all_told ys)

joins_traced : (xs ys : List TraceLine) (before now : Bool) (more rest : List Line) (whole : List TraceLine) → now ≡ before → ys ≡ xs ++ traced before more →
    xs ++ traced before (more ++ rest) ≡ whole → ys ++ traced now rest ≡ whole
joins_traced xs ys before now more rest whole same is h =
    subst (λ (b : Bool). ys ++ traced b rest ≡ whole) (sym same)
    (joins xs (traced before more) (traced before rest) whole ys is (subst (λ (zs : List TraceLine). xs ++ zs ≡ whole) (traced_parts before more rest) h))

-- the first part is done
pub leads_on : (whole e : Effect) (g : World → Effect) (s : Site) (c : Whole) (old told new : Log) →
    Leads whole (then_do e g) old told → Does e s c told new → Leads whole (g (world_in c)) old new
leads_on whole e g s c old told new leads done =
    subst (λ (w : World). Leads whole (g w) old new) (sym done.world) (
    record {
      world = leads.world;
      events = joins told.events e.events (g e.world).events (old.events ++ whole.events) new.events done.events leads.events;
      passed = joins told.passed e.passed (g e.world).passed (old.passed ++ whole.passed) new.passed done.passed leads.passed;
      left = joins (all_left told.left) e.left (g e.world).left (all_left old.left ++ whole.left) (all_left new.left) done.left leads.left;
      outs =
          joins_traced told.outs.items new.outs.items told.tracing new.tracing e.outs (g e.world).outs (old.outs.items ++ traced old.tracing whole.outs) done.tracing done.outs
          leads.outs;
      lines = done.lines ∙ leads.lines;
      tracing = done.tracing ∙ leads.tracing;
    })

-- the rest is done
pub leads_end : (whole rest : Effect) (s : Site) (c : Whole) (old told new : Log) → Leads whole rest old told → Does rest s c told new → Does whole s c old new
leads_end whole rest s c old told new leads done =
    record {
      world = done.world ∙ leads.world;
      events = done.events ∙ leads.events;
      passed = done.passed ∙ leads.passed;
      left = done.left ∙ leads.left;
      outs = done.outs ∙ leads.outs;
      lines = done.lines ∙ leads.lines;
      tracing = done.tracing ∙ leads.tracing;
      at = done.at;
    }

-- nothing is left to be done
pub leads_only : (whole : Effect) (s : Site) (c : Whole) (old told : Log) → Leads whole (only (world_in c)) old told → IsAt s c → Does whole s c old told
leads_only whole s c old told leads at =
    record {
      world = leads.world;
      events = sym (append-nil told.events) ∙ leads.events;
      passed = sym (append-nil told.passed) ∙ leads.passed;
      left = sym (append-nil (all_left told.left)) ∙ leads.left;
      outs = sym (append-nil told.outs.items) ∙ leads.outs;
      lines = leads.lines;
      tracing = leads.tracing;
      at = at;
    }

-- one effect after another
pub does_then : (e : Effect) (g : World → Effect) (s : Site) (c d : Whole) (old told new : Log) →
    Does e s c old told → Does (g (world_in c)) s d told new → Does (then_do e g) s d old new
does_then e g s c d old told new first second =
    leads_end (then_do e g) (g (world_in c)) s d old told new (leads_on (then_do e g) e g s c old old told (leads_first (then_do e g) old) first) second

-- of a list, one part after the other
pub each_parts : {A : Type 0} (f : A → World → Effect) (xs ys : List A) (w : World) → each f (xs ++ ys) w ≡ then_do (each f xs w) (each f ys)
each_parts f [] ys w = refl
each_parts f (x ∷ xs) ys w =
    ap (λ (rest : Effect). joined (f x w) rest) (each_parts f xs ys (f x w).world)
    ∙ joined_parts (f x w) (each f xs (f x w).world) (each f ys (each f xs (f x w).world).world)
  where
    joined_parts : (a b d : Effect) → joined a (joined b d) ≡ joined (joined a b) d
    joined_parts a b d = rw (append_assoc a.events b.events d.events, append_assoc a.passed b.passed d.passed, append_assoc a.left b.left d.left, append_assoc a.outs b.outs d.outs) refl

-- of a list with one member
pub each_one : {A : Type 0} (f : A → World → Effect) (x : A) (w : World) → each f (x ∷ []) w ≡ f x w
each_one f x w = alone (f x w)
  where
    alone : (e : Effect) → joined e (only e.world) ≡ e
    alone e = rw (append-nil e.events, append-nil e.passed, append-nil e.left, append-nil e.outs) refl

pub does_parts : {A : Type 0} (f : A → World → Effect) (xs ys : List A) (w : World) (s : Site) (c d : Whole) (old told new : Log) →
    Does (each f xs w) s c old told → Does (each f ys (world_in c)) s d told new → Does (each f (xs ++ ys) w) s d old new
does_parts f xs ys w s c d old told new first second =
    subst (λ (e : Effect). Does e s d old new) (sym (each_parts f xs ys w)) (does_then (each f xs w) (each f ys) s c d old told new first second)

-- for each of a list, in order: this member is done, and those behind it are left
pub leads_each : {A B : Type 0} (whole : Effect) (f : B → World → Effect) (g : A → B) (xs : List A) (i : ℕ) (x : A) (s : Site) (b c : Whole) (old told new : Log) →
    i < length xs → x ≡ get_or xs i x → Leads whole (each f (map g (drop i xs)) (world_in b)) old told → Does (f (g x) (world_in b)) s c told new →
    Leads whole (each f (map g (drop (i + 1) xs)) (world_in c)) old new
leads_each whole f g xs i x s b c old told new within is leads done =
    let rest : map g (drop i xs) ≡ g x ∷ map g (drop (i + 1) xs) =
    ap (map g) (drop-cons xs i x within) ∙ ap (λ y. g y ∷ map g (drop (suc i) xs)) (sym is) ∙ ap (λ (k : ℕ). g x ∷ map g (drop k xs)) (sym (add-one i)) in
    leads_on whole (f (g x) (world_in b)) (each f (map g (drop (i + 1) xs))) s c old told new (subst (λ (ys : List _). Leads whole (each f ys (world_in b)) old told) rest leads) done

-- all are done
pub leads_all : {A B : Type 0} (whole : Effect) (f : B → World → Effect) (g : A → B) (xs : List A) (i : ℕ) (s : Site) (c : Whole) (old told : Log) →
    length xs ≤ i → Leads whole (each f (map g (drop i xs)) (world_in c)) old told → IsAt s c → Does whole s c old told
leads_all whole f g xs i s c old told all leads is =
    leads_only whole s c old told (subst (λ (ys : List _). Leads whole (each f (map g ys) (world_in c)) old told) (drop_all i xs all) leads) is
