-- Rows of files, one change after another. Public: whoever writes a row of files cites these.
use Rattle.std.proofs.Common.{◌≡◌, ◌≢◌, ◌<◌, ◌≤◌, ◌+◌, inl, inr, ℕ, List, [], ◌++◌, Some, length, take, ap, sym, ◌∙◌, refl, arith, subst, append_assoc}
use Rattle.std.proofs.lemmas.Bool.{cases_lt}
use Rattle.std.proofs.Math.Seq.{take-length}
use Rattle.exb_shelf.specs.Files.{Files, SameFiles, Puts, Adds, AddsFront, Filled, UpTo, IsFront, Cut}

-- the names of a row differ
abbrev pub Apart : ℕ → (ℕ → List ℕ) → Type 0
Apart n name = (i j : ℕ) → i < n → j < n → i ≢ j → name i ≢ name j

-- what is below or above differs
below_differs : (j k : ℕ) → j < k → j ≢ k
below_differs j k h e = omega arith

above_differs : (j k : ℕ) → k < j → j ≢ k
above_differs j k h e = omega arith

-- no file of the row is filled yet
pub filled_none : (f : Files) (name : ℕ → List ℕ) (P : ℕ → List ℕ → Type 0) → Filled f f 0 name P
filled_none f name P = record { each = λ j h. absurd (omega arith); others = λ m _. refl }

-- with the next file put, one more is filled
pub filled_one : (f g h : Files) (n k : ℕ) (name : ℕ → List ℕ) (P : ℕ → List ℕ → Type 0) (bytes : List ℕ)
    → Apart n name → k < n → Filled f g k name P → Puts g h (name k) bytes → P k bytes → Filled f h (k + 1) name P
filled_one f g h n k name P bytes apart lt p q at = record {
  each = λ j lj. elim (cases_lt j k) [
    | inl below ↦
        let lt2 : j < n = omega arith in
        let old = p.each j below in
        (old.0, q.others (name j) (apart j k lt2 lt (below_differs j k below)) ∙ old.1, old.2)
    | inr above ↦
        let same : j ≡ k = omega arith in
        (bytes, ap h (ap name same) ∙ q.here, subst (λ (i : ℕ). P i bytes) (sym same) at)
  ];
  others = λ m away.
      q.others m (away k (omega arith)) ∙ p.others m (λ j l. away j (omega arith));
}

-- some files made empty, and the others as they were, are fronts of any texts
pub cut_empty : (f g : Files) (n k : ℕ) (name : ℕ → List ℕ)
    → Apart n name → k ≤ n → Filled f g k name (λ j b. b ≡ []) → (text : ℕ → List ℕ) → Cut f g n name text
cut_empty f g n k name apart le p text = record {
  each = λ j lj. elim (cases_lt j k) [
    | inl below ↦
        let old = p.each j below in
        inr (0, old.1 ∙ ap Some old.2)
    | inr above ↦ inl (p.others (name j) (λ i li. let lt : i < n = omega arith in apart j i lj lt (above_differs j i (omega arith))))
  ];
  others = λ m away. p.others m (λ j l. away j (omega arith));
}

-- a change of no file leaves a cut row as it is
pub cut_same : (f g h : Files) (n : ℕ) (name text : ℕ → List ℕ) → Cut f g n name text → SameFiles g h → Cut f h n name text
cut_same f g h n name text p q = record {
  each = λ j lj. elim (p.each j lj) [
    | inl same ↦ inl (q (name j) ∙ same)
    | inr front ↦ inr (front.0, q (name j) ∙ front.1)
  ];
  others = λ m away. q m ∙ p.others m away;
}

-- with the k-th text added, the first k + 1 are written
pub fill_more : (f g h : Files) (n k : ℕ) (name text : ℕ → List ℕ)
    → Apart n name → k < n → Filled f g n name (UpTo k text) → Adds g h (name k) (text k) → Filled f h n name (UpTo (k + 1) text)
fill_more f g h n k name text apart lt p q = record {
  each = λ j lj.
      let old = p.each j lj in
      elim (cases_lt j k) [
        | inl below ↦ (old.0, q.others (name j) (apart j k lj lt (below_differs j k below)) ∙ old.1, (λ _. old.2.0 below, λ l. absurd (omega arith)))
        | inr above ↦ elim (cases_lt k j) [
          | inl more ↦ (old.0, q.others (name j) (apart j k lj lt (above_differs j k more)) ∙ old.1, (λ l. absurd (omega arith), λ l. old.2.1 above))
          | inr no_more ↦
              let same : j ≡ k = omega arith in
              let was : g (name k) ≡ Some [] = ap g (ap name (sym same)) ∙ old.1 ∙ ap Some (old.2.1 above) in
              (text j, ap h (ap name same) ∙ q.here [] was ∙ ap Some (ap text (sym same)), (λ _. refl, λ l. absurd (omega arith)))
        ]
      ];
  others = λ m away. q.others m (away k lt) ∙ p.others m away;
}

-- with a front of the k-th text added, each file has a front of its text
pub front_more : (f g h : Files) (n k : ℕ) (name text : ℕ → List ℕ)
    → Apart n name → k < n → Filled f g n name (UpTo k text) → AddsFront g h (name k) (text k) → Filled f h n name (IsFront text)
front_more f g h n k name text apart lt p (cut, q) = record {
  each = λ j lj.
      let old = p.each j lj in
      elim (cases_lt j k) [
        | inl below ↦ (old.0, q.others (name j) (apart j k lj lt (below_differs j k below)) ∙ old.1, (length (text j), old.2.0 below ∙ sym (take-length (text j))))
        | inr above ↦ elim (cases_lt k j) [
          | inl more ↦ (old.0, q.others (name j) (apart j k lj lt (above_differs j k more)) ∙ old.1, (0, old.2.1 above))
          | inr no_more ↦
              let same : j ≡ k = omega arith in
              let was : g (name k) ≡ Some [] = ap g (ap name (sym same)) ∙ old.1 ∙ ap Some (old.2.1 above) in
              (take cut (text j), ap h (ap name same) ∙ q.here [] was ∙ ap Some (ap (λ i. take cut (text i)) (sym same)), (cut, refl))
        ]
      ];
  others = λ m away. q.others m (away k lt) ∙ p.others m away;
}

-- with the first k texts written, each file has a front of its text
pub front_now : (f g : Files) (n k : ℕ) (name text : ℕ → List ℕ)
    → Filled f g n name (UpTo k text) → Filled f g n name (IsFront text)
front_now f g n k name text p = record {
  each = λ j lj.
      let old = p.each j lj in
      elim (cases_lt j k) [
        | inl below ↦ (old.0, old.1, (length (text j), old.2.0 below ∙ sym (take-length (text j))))
        | inr above ↦ (old.0, old.1, (0, old.2.1 above))
      ];
  others = p.others;
}

-- with no text left, each file has its text
pub all_written : (f g : Files) (n k : ℕ) (name text : ℕ → List ℕ)
    → n ≤ k → Filled f g n name (UpTo k text) → Filled f g n name (λ j bytes. bytes ≡ text j)
all_written f g n k name text le p = record {
  each = λ j lj. let old = p.each j lj in (old.0, old.1, old.2.0 (omega arith));
  others = p.others;
}

-- empty files have the first 0 of their texts
pub none_written : (f : Files) (n : ℕ) (name text : ℕ → List ℕ)
    → ((j : ℕ) → j < n → f (name j) ≡ Some []) → Filled f f n name (UpTo 0 text)
none_written f n name text empty = record {
  each = λ j lj. ([], empty j lj, (λ l. absurd (omega arith), λ _. refl));
  others = λ m _. refl;
}

-- the k-th text is added, under another spelling of the name and the text
pub fill_spelled : (f g h : Files) (n k : ℕ) (name text : ℕ → List ℕ) (m ys : List ℕ)
    → Apart n name → k < n → Filled f g n name (UpTo k text) → m ≡ name k → ys ≡ text k → Adds g h m ys → Filled f h n name (UpTo (k + 1) text)
fill_spelled f g h n k name text m ys apart lt p em ey q =
    fill_more f g h n k name text apart lt p (subst (λ (x : List ℕ). Adds g h x (text k)) em (subst (λ (y : List ℕ). Adds g h m y) ey q))

-- a front of it is added, under another spelling of the name and the text
pub front_spelled : (f g h : Files) (n k : ℕ) (name text : ℕ → List ℕ) (m ys : List ℕ)
    → Apart n name → k < n → Filled f g n name (UpTo k text) → m ≡ name k → ys ≡ text k → AddsFront g h m ys → Filled f h n name (IsFront text)
front_spelled f g h n k name text m ys apart lt p em ey q =
    front_more f g h n k name text apart lt p (subst (λ (x : List ℕ). AddsFront g h x (text k)) em (subst (λ (y : List ℕ). AddsFront g h m y) ey q))

-- a row that is filled twice holds what came last
pub filled_then : (f g h : Files) (n : ℕ) (name : ℕ → List ℕ) (P Q : ℕ → List ℕ → Type 0) → Filled f g n name P → Filled g h n name Q → Filled f h n name Q
filled_then f g h n name P Q p q = record { each = q.each; others = λ m away. q.others m away ∙ p.others m away }

-- a row that was filled and then written in part is cut
pub cut_then : (f g h : Files) (n : ℕ) (name text : ℕ → List ℕ) (P : ℕ → List ℕ → Type 0) → Filled f g n name P → Filled g h n name (IsFront text) → Cut f h n name text
cut_then f g h n name text P p q = record {
  each = λ j l. let new = q.each j l in inr (new.2.0, new.1 ∙ ap Some new.2.1);
  others = λ m away. q.others m away ∙ p.others m away;
}

-- a file of a row of empty files is there, and empty
pub made_empty : (f g : Files) (n : ℕ) (name : ℕ → List ℕ) → Filled f g n name (λ j b. b ≡ []) → (j : ℕ) → j < n → g (name j) ≡ Some []
made_empty f g n name p j l = let now = p.each j l in now.1 ∙ ap Some now.2

-- where no file changed, each file of the row is as it was
pub cut_nothing : (f g : Files) (n : ℕ) (name text : ℕ → List ℕ) → SameFiles f g → Cut f g n name text
cut_nothing f g n name text p = record { each = λ j l. inl (p (name j)); others = λ m away. p m }

-- what is added in two parts is added
pub adds_then : (f g h : Files) (name xs ys : List ℕ) → Adds f g name xs → Adds g h name ys → Adds f h name (xs ++ ys)
adds_then f g h name xs ys p q = record {
  here = λ had e. q.here (had ++ xs) (p.here had e) ∙ ap Some (append_assoc had xs ys);
  others = λ n d. q.others n d ∙ p.others n d;
}
