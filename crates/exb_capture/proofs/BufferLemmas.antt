-- What a buffer holds between two places.
use Rattle.std.proofs.Common.{◌≡◌, ◌<◌, ◌≤◌, ◌+◌, ◌-◌, ℕ, List, refl, ◌++◌, ◌⊎◌, inl, inr, [], length, take, drop, ap, sym, ◌∙◌, arith, length-take, length-drop, length-append, append_assoc}
use Rattle.std.specs.Prelude.{min, Result, Ok, Err, OnErr}
use Rattle.std.proofs.lemmas.Bool.{cases_lt}
use Rattle.std.proofs.lemmas.List.{append-nil, take-append-drop, drop-take, drop-drop, take-take, take_at, drop-append-le, drop_all, length-take-le}
use Rattle.exb_capture.specs.Blocks.{most_held}
use Rattle.exb_capture.specs.ReaderMachine.{Stage, Reading, fed, gone}
use Rattle.exb_capture.proofs.TurnLemmas.{reading}

pub same_reading : {S : Type 0} (s : Stage S) (p : ℕ) (h k : List ℕ) (o u b m n : ℕ) → h ≡ k → o ≡ u → m ≡ n → reading s p h o b m ≡ reading s p k u b n
same_reading s p h k o u b m n e f d = λ i. reading s p (e i) (f i) b (d i)

abbrev pub between : ℕ → ℕ → List ℕ → List ℕ
between start end bytes = take (end - start) (drop start bytes)

-- more behind what is there
pub between_more : (bytes mid rest : List ℕ) (start end n : ℕ) → start ≤ end → end ≤ length bytes → length mid ≡ n
    → take (end + n - start) (drop start (take end bytes ++ (mid ++ rest))) ≡ take (end - start) (drop start bytes) ++ mid
between_more bytes mid rest start end n before within size =
    let front : List ℕ = drop start (take end bytes) in
    let long : length (take end bytes) ≡ end = length-take-le end bytes within in
    let split : drop start (take end bytes ++ (mid ++ rest)) ≡ front ++ (mid ++ rest) = drop-append-le start (take end bytes) (mid ++ rest) (omega arith) in
    let whole : length (front ++ mid) ≡ end + n - start = omega (arith, length-append front mid, length-drop start (take end bytes)) in
    let parts : take (start + (end - start)) bytes ≡ take end bytes = let e : start + (end - start) ≡ end = omega arith in ap (λ k. take k bytes) e in
    ap (take (end + n - start)) (split ∙ sym (append_assoc front mid rest)) ∙ take_at (front ++ mid) rest (end + n - start) whole
    ∙ ap (λ xs. xs ++ mid) (ap (drop start) (sym parts) ∙ drop-take start (end - start) bytes)

-- the first k bytes less
pub between_less : (bytes : List ℕ) (start end k : ℕ) → k ≤ length (take (end - start) (drop start bytes))
    → take (end - (start + k)) (drop (start + k) bytes) ≡ drop k (take (end - start) (drop start bytes))
between_less bytes start end k within =
    let few : k ≤ end - start = omega (arith, length-take (end - start) (drop start bytes)) in
    let whole : k + (end - (start + k)) ≡ end - start = omega arith in
    ap (take (end - (start + k))) (sym (drop-drop k start bytes))
    ∙ sym (drop-take k (end - (start + k)) (drop start bytes))
    ∙ ap (λ n. drop k (take n (drop start bytes))) whole

-- n bytes behind the first k
pub between_part : (bytes : List ℕ) (start end k n : ℕ) → k + n ≤ length (take (end - start) (drop start bytes))
    → take n (drop (start + k) bytes) ≡ take n (drop k (take (end - start) (drop start bytes)))
between_part bytes start end k n within =
    let few : k + n ≤ end - start = omega (arith, length-take (end - start) (drop start bytes)) in
    sym (take-take n (end - (start + k)) (drop (start + k) bytes) (omega arith))
    ∙ ap (take n) (between_less bytes start end k (omega arith))

-- a reader whose buffer has these bytes
abbrev pub view_of : {S : Type 0} → Stage S → ℕ → List ℕ → ℕ → ℕ → ℕ → ℕ → Reading S
view_of s p bytes start end o b = reading s p (between start end bytes) o b (most_held - end)

pub fed_view : {S : Type 0} (s : Stage S) (p : ℕ) (bytes mid rest piece : List ℕ) (start end o b n : ℕ) → start ≤ end → end ≤ length bytes → n ≤ length piece → mid ≡ take n piece
    → view_of s p (take end bytes ++ (mid ++ rest)) start (end + n) o b ≡ fed n piece (view_of s p bytes start end o b)
fed_view s p bytes mid rest piece start end o b n before within few is =
    let size : length mid ≡ n = ap length is ∙ length-take-le n piece few in
    same_reading s p _ _ o o b _ _
    (between_more bytes mid rest start end n before within size ∙ ap (λ xs. between start end bytes ++ xs) is) refl
    (omega arith)

-- bytes were read into what is free, and so many of them count
pub filled_view : {S : Type 0} (s : Stage S) (p : ℕ) (bytes into rest : List ℕ) (start end o b n : ℕ) → start ≤ end → end ≤ length bytes → n ≤ length into
    → view_of s p (take end bytes ++ (into ++ rest)) start (end + n) o b ≡ fed n into (view_of s p bytes start end o b)
filled_view s p bytes into rest start end o b n before within few =
    ap (λ xs. view_of s p (take end bytes ++ xs) start (end + n) o b)
    (ap (λ ys. ys ++ rest) (sym (take-append-drop n into)) ∙ append_assoc (take n into) (drop n into) rest)
    ∙ fed_view s p bytes (take n into) (drop n into ++ rest) into start end o b n before within few refl

-- or none
pub kept_view : {S : Type 0} (s : Stage S) (p : ℕ) (bytes rest : List ℕ) (start end o b : ℕ) → start ≤ end → end ≤ length bytes
    → view_of s p (take end bytes ++ rest) start end o b ≡ view_of s p bytes start end o b
kept_view s p bytes rest start end o b before within =
    let none : end + 0 ≡ end = omega arith in
    same_reading s p _ _ o o b _ _
    (ap (λ k. take (k - start) (drop start (take end bytes ++ rest))) (sym none) ∙ between_more bytes [] rest start end 0 before within refl ∙ append-nil (between start end bytes))
    refl refl

between_long : (bytes : List ℕ) (start end : ℕ) → start ≤ end → end ≤ length bytes → length (between start end bytes) ≡ end - start
between_long bytes start end before within = length-take-le (end - start) (drop start bytes) (omega (arith, length-drop start bytes))

-- what was read before is gone
pub gone_view : {S : Type 0} (s : Stage S) (p : ℕ) (bytes : List ℕ) (start end o b n : ℕ) → start ≤ end → end ≤ length bytes → n ≡ min o (end - start)
    → view_of s p bytes (start + n) end (o - n) b ≡ gone (view_of s p bytes start end o b)
gone_view s p bytes start end o b n before within is =
    let long = between_long bytes start end before within in
    same_reading s p _ _ _ _ b _ _
    (between_less bytes start end n (omega (arith, is, long)) ∙ by_owing (cases_lt (end - start) o)) (omega (arith, is, long)) refl
  where
    by_owing : (end - start < o) ⊎ (o ≤ end - start) → drop n (between start end bytes) ≡ drop o (between start end bytes)
    by_owing (inl more) =
        let long = between_long bytes start end before within in
        drop_all n (between start end bytes) (omega (arith, is, long)) ∙ sym (drop_all o (between start end bytes) (omega (arith, long)))
    by_owing (inr all) = let same : n ≡ o = omega (arith, is) in ap (λ k. drop k (between start end bytes)) same

-- what holds stands at a fault too
pub on_err : {T E P : Type 0} (r : Result T E) → P → OnErr r P
on_err (Ok x) p = tt
on_err (Err e) p = p
