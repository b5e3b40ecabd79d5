-- Files of frames of which it is known what they give: no fault of them comes first, and their frames by port are these.
use Rattle.std.proofs.Common.{◌≡◌, ◌⊎◌, ◌<◌, ◌≤◌, ◌-◌, ◌==◌, ◌||◌, if◌then◌else◌, inl, inr, ℕ, zero, suc, Bool, true, false, List, [], ◌∷◌, ◌++◌, length, map, flat_map, Option, Some, Ok, refl, ap, sym, subst, ◌∙◌, arith, add-one, eq-eqb}
use Rattle.std.proofs.lemmas.Bool.{cases_lt, eqb-true}
use Rattle.exb_model.specs.Input.{Record}
use Rattle.exb_model.specs.Ports.{below}
use Rattle.exb_trace_spec.specs.Traversals.{Each}
use Rattle.exb_shelf.specs.Files.{Files, bytes_of}
use Rattle.exb_audit.specs.declared.frames.PortFrames.{PortFrames}
use Rattle.exb_audit.specs.Frames.{frames_by}
use Rattle.exb_audit_files.specs.declared.port_files.PortFile.{PortFile}
use Rattle.exb_audit_files.specs.declared.port_files.FramesFault.{FramesFault}
use Rattle.exb_audit_files.specs.declared.port_files.FramesFault.TheVariants.{Memory, Read, Missing, Broken, Large}
use Rattle.exb_audit_files.specs.FrameFiles.{EachIsRead, IsFirstFault, IsFlaw, IsReadFrom, Reading, total}
use Rattle.exb_audit_files.proofs.FrameFiles.{total_more}
use Rattle.exb_audit_files.proofs.PortRange.{flat_more}

-- ---- each of some
pub each_append : {A : Type 0} (P : A → Type 0) (xs ys : List A) → Each P xs → Each P ys → Each P (xs ++ ys)
each_append P [] ys a b = b
each_append P (x ∷ xs) ys a b = (a.0, each_append P xs ys a.1 b)

pub each_flat : {A : Type 0} (P : A → Type 0) (f : ℕ → List A) (ps : List ℕ) → ((p : ℕ) → Each P (f p)) → Each P (flat_map f ps)
each_flat P f [] all = tt
each_flat P f (p ∷ ps) all = each_append P (f p) (flat_map f ps) (all p) (each_flat P f ps all)

each_at : {A : Type 0} (P : A → Type 0) (before : List A) (x : A) (after : List A) → Each P (before ++ x ∷ after) → P x
each_at P [] x after all = all.0
each_at P (b ∷ before) x after all = each_at P before x after all.1

-- ---- the ports of files
abbrev pub has_at : ℕ → List PortFile → Bool
has_at p [] = false
has_at p (x ∷ xs) = (x.port == p) || has_at p xs

has_left : (p : ℕ) (xs ys : List PortFile) → has_at p xs ≡ true → has_at p (xs ++ ys) ≡ true
has_left p [] ys h = absurd (cc)
has_left p (x ∷ xs) ys h = by_test (has_left p xs ys) (x.port == p) h
  where
    by_test : (has_at p xs ≡ true → has_at p (xs ++ ys) ≡ true) → (b : Bool) → (b || has_at p xs) ≡ true → (b || has_at p (xs ++ ys)) ≡ true
    by_test rest true e = refl
    by_test rest false e = rest e

has_right : (p : ℕ) (xs ys : List PortFile) → has_at p ys ≡ true → has_at p (xs ++ ys) ≡ true
has_right p [] ys h = h
has_right p (x ∷ xs) ys h = by_test (has_right p xs ys h) (x.port == p)
  where
    by_test : has_at p (xs ++ ys) ≡ true → (b : Bool) → (b || has_at p (xs ++ ys)) ≡ true
    by_test rest true = refl
    by_test rest false = rest

has_step : (f : ℕ → List PortFile) (p n : ℕ) → (p < n → has_at p (flat_map f (below n)) ≡ true) → p < suc n → has_at p (f p) ≡ true → has_at p (flat_map f (below (suc n))) ≡ true
has_step f p n rest low own =
    subst (λ (xs : List PortFile). has_at p xs ≡ true) (sym (ap (λ (k : ℕ). flat_map f (below k)) (sym (add-one n)) ∙ flat_more f n))
    (elim (cases_lt p n) [
      | inl less ↦ has_left p (flat_map f (below n)) (f n) (rest less)
      | inr over ↦
          let last : p ≡ n = omega (arith, low, over) in
          has_right p (flat_map f (below n)) (f n) (subst (λ (k : ℕ). has_at p (f k) ≡ true) last own)
    ])

-- a file of a port is one of all
pub has_below : (f : ℕ → List PortFile) (p n : ℕ) → p < n → has_at p (f p) ≡ true → has_at p (flat_map f (below n)) ≡ true
has_below f p zero low own = absurd (omega (arith, low))
has_below f p (suc n) low own = has_step f p n (λ less. has_below f p n less own) low own

pub has_own : (p : ℕ) (name : List ℕ) → has_at p (record { port = p; name = name } ∷ []) ≡ true
has_own p name = ap (λ (b : Bool). b || false) (eq-eqb p p refl)

-- ---- what a file gives
pub record Gives (read : Reading) (file : Files) (x : PortFile) (frames : List (List ℕ)) : Type 0 where
  pub bytes : List ℕ
  pub there : file x.name ≡ Some bytes
  pub records : List Record
  pub is : read bytes ≡ Ok records
  pub are : map (λ (r : Record). r.bytes) records ≡ frames

module _ (read : Reading) (file : Files) (frames : ℕ → List (List ℕ)) where
  abbrev pub AllGive : List PortFile → Type 0
  AllGive xs = Each (λ (x : PortFile). Gives read file x (frames x.port)) xs

  same_frames : (x : PortFile) (f : PortFrames) → IsReadFrom read file x f → Gives read file x (frames x.port) → f.frames.items ≡ frames x.port
  same_frames x f h g =
      let files : Some h.bytes ≡ Some g.bytes = sym h.there ∙ g.there in
      let bytes : h.bytes ≡ g.bytes = cc in
      let both : Ok h.holds.records ≡ Ok g.records = sym h.holds.is ∙ (ap read bytes ∙ g.is) in
      let records : h.holds.records ≡ g.records = cc in
      sym h.holds.are ∙ (ap (map (λ (r : Record). r.bytes)) records ∙ g.are)

  -- the frames by port are these, where a port without a file has none
  pub frames_are : (xs : List PortFile) (fs : List PortFrames) → EachIsRead read file xs fs → AllGive xs → (p : ℕ) → (has_at p xs ≡ true) ⊎ (frames p ≡ []) → frames_by fs p ≡ frames p
  frames_are [] [] e all p (inl at) = absurd (cc)
  frames_are [] [] e all p (inr none) = sym none
  frames_are [] (f ∷ fs) e all p k = absurd e
  frames_are (x ∷ xs) [] e all p k = absurd e
  frames_are (x ∷ xs) (f ∷ fs) e all p k = by_port (frames_are xs fs e.1 all.1 p) (x.port == p) refl k
    where
      by_port : ((has_at p xs ≡ true) ⊎ (frames p ≡ []) → frames_by fs p ≡ frames p) → (b : Bool) → (x.port == p) ≡ b → ((b || has_at p xs) ≡ true) ⊎ (frames p ≡ [])
          → (if f.port == p then f.frames.items else frames_by fs p) ≡ frames p
      by_port rest true is j =
          subst (λ (b : Bool). (if b then f.frames.items else frames_by fs p) ≡ frames p) (sym (ap (λ (q : ℕ). q == p) e.0.port ∙ is))
          (same_frames x f e.0 all.0 ∙ ap frames (eqb-true x.port p is))
      by_port rest false is j = subst (λ (b : Bool). (if b then f.frames.items else frames_by fs p) ≡ frames p) (sym (ap (λ (q : ℕ). q == p) e.0.port ∙ is)) (rest j)

  flaw_not : (left : ℕ) (x : PortFile) (bytes : List ℕ) (records : List Record) (f : FramesFault) → read bytes ≡ Ok records → length bytes ≤ left → IsFlaw read left x (Some bytes) f → ⊥
  flaw_not left x bytes records (Broken port fault) ok few h = let no = sym ok ∙ h.1 in cc
  flaw_not left x bytes records Large ok few h = omega (arith, few, h.0)
  flaw_not left x bytes records Memory ok few h = h
  flaw_not left x bytes records Read ok few h = h
  flaw_not left x bytes records (Missing name) ok few h = h

  -- no fault comes first
  pub first_not : (limit : ℕ) (xs : List PortFile) (f : FramesFault) → AllGive xs → total file xs ≤ limit → IsFirstFault read file limit xs f → ⊥
  first_not limit xs f all within h =
      let one : Gives read file h.one (frames h.one.port) = each_at (λ (x : PortFile). Gives read file x (frames x.port)) h.before h.one h.after (subst AllGive h.is all) in
      let whole = ap (total file) h.is ∙ total_more file h.before (h.one ∷ h.after) in
      let size = ap (λ (o : Option (List ℕ)). length (bytes_of o)) one.there in
      flaw_not (limit - total file h.before) h.one one.bytes one.records f one.is (omega (arith, within, whole, size))
      (subst (λ (o : Option (List ℕ)). IsFlaw read (limit - total file h.before) h.one o f) one.there h.here)
