-- What the calls of a link make of its list of words.
use Rattle.std.proofs.Common.{◌≡◌, ℕ, zero, suc, ◌+◌, ◌-◌, ◌<◌, ◌≤◌, ◌==◌, Bool, true, false, List, [], ◌∷◌, ◌++◌, length, take, drop, map, Some, None, filter, slice_get, refl, ap, sym, ◌∙◌, subst, arith, length-append, eq-eqb}
use Rattle.std.specs.List.{remove}
use Rattle.std.proofs.lemmas.Bool.{ne_eqb, eqb-true}
use Rattle.std.proofs.lemmas.List.{take_all, drop_all, length-map, append-nil}
use Rattle.std.proofs.lemmas.List.Elements.{All-take, All-drop, All-append}
use Rattle.std.proofs.lemmas.List.Edits.{length-remove}
use Rattle.std.proofs.lemmas.Option.{slice_get_within, none-some}
use Rattle.exb_link.specs.declared.link_frame.LinkFrame.{LinkFrame}
use Rattle.exb_link.specs.declared.link.QueuedFrame.{QueuedFrame}
use Rattle.exb_link.specs.LinkFrames.{is_control, is_data, leading, without_data, without_control}
use Rattle.exb_link.specs.Queues.{woven, all_behind, IsWoven, more_ahead, more_behind, less_behind}
use Rattle.exb_link.proofs.Interleaving.{AllControl, AllData, IsControl, IsFrame, tail_of, both_of, without_data-none, control-woven, data-woven, leading-woven, woven-frame, all_behind-frame, woven-control, counted-more, data-more, woven-without_data, woven-less, woven-behind, all_behind-less, data-less}

-- ---- no word
no_length : {X : Type 0} (xs : List X) → length xs ≡ 0 → xs ≡ []
no_length [] e = refl
no_length (x ∷ xs) e = absurd (omega arith)

pub new_kept : (frames : List QueuedFrame) (control : List LinkFrame) → frames ≡ [] → control ≡ [] → IsWoven 0 frames control
unfolding all_behind
new_kept frames control f c =
    rw (f, c) (record { frames_only = λ k d h. absurd (omega arith); control_only = λ k d h. absurd (omega arith); counted = refl })

pub new_woven : (ahead : ℕ) (frames : List QueuedFrame) (control : List LinkFrame) → frames ≡ [] → control ≡ [] → woven ahead frames control ≡ []
unfolding woven
new_woven ahead frames control f c = rw (f, c) refl

past : (ws : List LinkFrame) (k : ℕ) → length (filter is_control ws) ≤ k → without_control ws k ≡ ws
past [] k h = refl
past (w ∷ ws) k h = by_test (λ j l. past ws j l) (is_control w) refl
  where
    by_test : ((j : ℕ) → length (filter is_control ws) ≤ j → without_control ws j ≡ ws) → (b : Bool) → is_control w ≡ b → without_control (w ∷ ws) k ≡ w ∷ ws
    by_test rest true e =
        let l : suc (length (filter is_control ws)) ≤ k = rw e at h in
        let n : (k == 0) ≡ false = ne_eqb k 0 (λ z. omega arith) in
        rw (e, n) (ap (λ xs. w ∷ xs) (rest (k - 1) (omega arith)))
    by_test rest false e =
        let l : length (filter is_control ws) ≤ k = rw e at h in
        rw e (ap (λ xs. w ∷ xs) (rest k l))

slice_get-none : {X : Type 0} (xs : List X) (k : ℕ) → slice_get xs k ≡ None → length xs ≤ k
slice_get-none [] k e = omega arith
slice_get-none (x ∷ xs) zero e = absurd (none-some x (sym e))
slice_get-none (x ∷ xs) (suc k) e = let h = slice_get-none xs k e in omega (arith, h)

-- ---- the link as its two queues
module _ (ahead : ℕ) (frames : List QueuedFrame) (control : List LinkFrame) (ws : List LinkFrame) (kept : IsWoven ahead frames control) (is : woven ahead frames control ≡ ws) where
  pub control_of : filter is_control ws ≡ control
  control_of = ap (filter is_control) (sym is) ∙ control-woven ahead frames control kept.frames_only kept.control_only

  pub data_of : filter is_data ws ≡ map (λ (s : QueuedFrame). s.word) frames
  data_of = ap (filter is_data) (sym is) ∙ data-woven ahead frames control kept.frames_only kept.control_only

  pub leading_of : leading ws ≡ ahead
  leading_of = ap leading (sym is) ∙ leading-woven ahead frames control kept.frames_only kept.control_only kept.counted

-- ---- what a call makes of the link
module _ (ahead : ℕ) (frames : List QueuedFrame) (control : List LinkFrame) (ws : List LinkFrame) (kept : IsWoven ahead frames control) (is : woven ahead frames control ≡ ws) where
  pub past_of : (k : ℕ) → length control ≤ k → without_control ws k ≡ ws
  past_of k h = past ws k (rw (control_of ahead frames control ws kept is) h)

  pub without_frame_none : length frames ≡ 0 → (fs : List QueuedFrame) → frames ≡ fs → woven ahead fs control ≡ without_data ws
  unfolding woven
  without_frame_none e fs same =
      let n = no_length frames e in
      let w : ws ≡ control = sym is ∙ ap (λ (xs : List QueuedFrame). woven ahead xs control) n in
      ap (λ (xs : List QueuedFrame). woven ahead xs control) (sym same) ∙ is ∙ w ∙ sym (ap without_data w ∙ without_data-none control kept.control_only)

  pub data_first : (s : QueuedFrame) (rest : List QueuedFrame) → frames ≡ s ∷ rest → Some s.word ≡ slice_get (filter is_data ws) 0
  data_first s rest e = sym (ap (λ xs. slice_get xs 0) (data_of ahead frames control ws kept is ∙ ap (map (λ (x : QueuedFrame). x.word)) e))

  pub data_none : length frames ≡ 0 → None ≡ slice_get (filter is_data ws) 0
  data_none e = sym (ap (λ xs. slice_get xs 0) (data_of ahead frames control ws kept is ∙ ap (map (λ (x : QueuedFrame). x.word)) (no_length frames e)))

  pub frame_pushed : (w : LinkFrame) → is_control w ≡ false → (fs : List QueuedFrame) → fs ≡ frames ++ record { word = w; behind = 0 } ∷ [] →
      IsWoven ahead fs control × (woven ahead fs control ≡ ws ++ w ∷ [])
  frame_pushed w not_control fs e = rw e (kept', woven-frame ahead frames control w kept.counted ∙ ap (λ xs. xs ++ w ∷ []) is)
    where
      new : QueuedFrame
      new = record { word = w; behind = 0 }

      kept' : IsWoven ahead (frames ++ record { word = w; behind = 0 } ∷ []) control
      kept' = record {
        frames_only = All-append IsFrame frames (record { word = w; behind = 0 } ∷ []) kept.frames_only (both_of IsFrame (record { word = w; behind = 0 }) [] (rw not_control refl) (λ k d h. absurd (omega arith)));
        control_only = kept.control_only;
        counted = rw (all_behind-frame frames w) kept.counted;
      }

  pub control_pushed : (w : LinkFrame) → is_control w ≡ true → (a : ℕ) (fs : List QueuedFrame) (ct : List LinkFrame) →
      a ≡ more_ahead ahead frames → fs ≡ more_behind frames → ct ≡ control ++ w ∷ [] → IsWoven a fs ct × (woven a fs ct ≡ ws ++ w ∷ [])
  control_pushed w is_one a fs ct e1 e2 e3 = rw (e1, e2, e3) (kept', woven-control ahead frames control w kept.counted ∙ ap (λ xs. xs ++ w ∷ []) is)
    where
      kept' : IsWoven (more_ahead ahead frames) (more_behind frames) (control ++ w ∷ [])
      kept' = record {
        frames_only = data-more frames kept.frames_only;
        control_only = All-append IsControl control (w ∷ []) kept.control_only (both_of IsControl w [] is_one (λ k d h. absurd (omega arith)));
        counted = counted-more ahead frames ∙ ap (λ n. n + 1) kept.counted ∙ sym (length-append control (w ∷ []));
      }

  removed_only : (k : ℕ) → AllControl (remove control k)
  removed_only k = All-append IsControl (take k control) (drop (suc k) control) (All-take IsControl k control kept.control_only) (All-drop IsControl (suc k) control kept.control_only)

  -- one that stands ahead of the first data word goes
  pub ahead_taken : (k : ℕ) (w : LinkFrame) → k < ahead → Some w ≡ slice_get control k → (ct : List LinkFrame) → ct ≡ remove control k →
      IsWoven (ahead - 1) frames ct × (woven (ahead - 1) frames ct ≡ without_control ws k)
  ahead_taken k w low at ct e =
      let within : k < length control = slice_get_within control k w (sym at) in
      let n = kept.counted in
      let l = length-remove control k within in
      rw e (
        record {
          frames_only = kept.frames_only;
          control_only = removed_only k;
          counted = omega (arith, l, n);
        },
        sym (woven-less ahead frames control k kept.control_only (omega (arith, n)) low) ∙ ap (λ xs. without_control xs k) is,
      )

  -- one that stands behind a data word goes
  pub behind_taken : (k : ℕ) (w : LinkFrame) → ahead ≤ k → Some w ≡ slice_get control k → (fs : List QueuedFrame) (ct : List LinkFrame) →
      fs ≡ less_behind (k - ahead) frames → ct ≡ remove control k → IsWoven ahead fs ct × (woven ahead fs ct ≡ without_control ws k)
  behind_taken k w high at fs ct e1 e2 =
      let within : k < length control = slice_get_within control k w (sym at) in
      let n = kept.counted in
      let e : ahead + (k - ahead) ≡ k = omega arith in
      let l = length-remove control k within in
      let m = all_behind-less frames (k - ahead) (omega (arith, n)) in
      rw (e1, e2) (
        record {
          frames_only = data-less frames (k - ahead) kept.frames_only;
          control_only = removed_only k;
          counted = omega (arith, l, m, n);
        },
        sym (rw e at (woven-behind ahead frames control (k - ahead) kept.frames_only kept.control_only kept.counted (omega (arith, n)))) ∙ ap (λ xs. without_control xs k) is,
      )

  -- there is none to go
  pub none_taken : (k : ℕ) → None ≡ slice_get control k → (ct : List LinkFrame) → ct ≡ remove control k → woven ahead frames ct ≡ without_control ws k
  none_taken k at ct e =
      let past_end : length control ≤ k = slice_get-none control k (sym at) in
      let same : ct ≡ control = e ∙ rw (take_all k control past_end, drop_all (suc k) control (omega arith)) (append-nil control) in
      rw same (is ∙ sym (past_of k past_end))

  -- ---- the first data word goes
  pub rest_fits : (s : QueuedFrame) (rest : List QueuedFrame) → frames ≡ s ∷ rest → ahead + s.behind ≤ length control
  unfolding all_behind
  rest_fits s rest e =
      let n : ahead + (s.behind + all_behind rest) ≡ length control = sym (ap (λ fs. ahead + all_behind fs) e) ∙ kept.counted in
      omega (arith, n)

  pub frame_taken : (s : QueuedFrame) (rest : List QueuedFrame) → frames ≡ s ∷ rest → IsWoven (ahead + s.behind) rest control × (woven (ahead + s.behind) rest control ≡ without_data ws)
  unfolding all_behind
  frame_taken s rest e =
      let n : ahead + (s.behind + all_behind rest) ≡ length control = sym (ap (λ fs. ahead + all_behind fs) e) ∙ kept.counted in
      let only : AllData (s ∷ rest) = subst AllData e kept.frames_only in
      let was : woven ahead (s ∷ rest) control ≡ ws = ap (λ (fs : List QueuedFrame). woven ahead fs control) (sym e) ∙ is in (
        record {
          frames_only = tail_of IsFrame s rest only;
          control_only = kept.control_only;
          counted = omega (arith, n);
        },
        sym (woven-without_data ahead s rest control only kept.control_only) ∙ ap without_data was,
      )

-- whether there is a word
pub empty_with : (frames : List QueuedFrame) (control : List LinkFrame) (ws : List LinkFrame) (a : ℕ) → length frames ≡ 0 → IsWoven a frames control → woven a frames control ≡ ws →
    (n : ℕ) → n ≡ length control → ((n == 0) ≡ true → ws ≡ []) × (ws ≡ [] → (n == 0) ≡ true)
empty_with frames control ws a none kept is n long = (
  λ z. sym is ∙ new_woven a frames control (no_length frames none) (no_length control (sym long ∙ eqb-true n 0 z)),
  λ e. eq-eqb n 0 (long ∙ sym (ap length (control_of a frames control ws kept is)) ∙ ap (λ xs. length (filter is_control xs)) e),
)

pub not_empty : (frames : List QueuedFrame) (control : List LinkFrame) (ws : List LinkFrame) (a : ℕ) → IsWoven a frames control → woven a frames control ≡ ws →
    (n : ℕ) → n ≡ length frames → (n == 0) ≡ false → ws ≡ [] → ⊥
not_empty frames control ws a kept is n long some e =
    let h : n ≡ 0 = long ∙ sym (length-map frames (λ (s : QueuedFrame). s.word)) ∙ sym (ap length (data_of a frames control ws kept is)) ∙ ap (λ xs. length (filter is_data xs)) e in
    cc (eq-eqb n 0 h)
