-- Pieces that follow one another.
use Rattle.std.proofs.Common.{◌≡◌, ◌≢◌, ◌≤◌, true, false, subst, ◌+◌, ◌-◌, ℕ, zero, suc, List, [], ◌∷◌, ◌++◌, Option, Some, length, take, drop, ap, sym, ◌∙◌, refl, arith, append_assoc, take-add}
use Rattle.std.proofs.lemmas.List.{take_rest}
use Rattle.std.proofs.lemmas.Grind.{common_steps}
use Rattle.std.proofs.lemmas.Bool.{false≢true}
use Rattle.exb_shelf.specs.Files.{Files, Puts, SameFiles, bytes_of, Adds}
use Rattle.exb_shelf.specs.Shelf.{Id, reading, IsReadingOf}

-- a front, and what is taken behind it
pub take_on : (xs : List ℕ) (a n : ℕ) → take a xs ++ take n (take (length xs - a) (drop a xs)) ≡ take (a + n) xs
take_on xs a n = ap (λ ys. take a xs ++ take n ys) (take_rest xs a) ∙ sym (take-add a n xs)

-- no text is added where nothing changes
pub adds_nothing : (f : Files) (name : List ℕ) → Adds f f name []
adds_nothing f name = record {
  here = λ had h. h ∙ ap Some (sym (search (arith, common_steps)));
  others = λ n _. refl;
}

-- what a write put behind a text is added to it
pub adds_more : (f g h : Files) (name xs ys : List ℕ) → Adds f g name xs → Puts g h name (bytes_of (g name) ++ ys) → Adds f h name (xs ++ ys)
adds_more f g h name xs ys p q = record {
  here = λ had e.
      let at : g name ≡ Some (had ++ xs) = p.here had e in
      q.here ∙ ap Some (ap (λ (o : Option (List ℕ)). bytes_of o ++ ys) at ∙ append_assoc had xs ys);
  others = λ n d. q.others n d ∙ p.others n d;
}

-- a change of no file leaves what was added
pub adds_same : (f g h : Files) (name xs : List ℕ) → Adds f g name xs → SameFiles g h → Adds f h name xs
adds_same f g h name xs p q = record {
  here = λ had e. q name ∙ p.here had e;
  others = λ n d. q n ∙ p.others n d;
}

-- an id that was given is not the new one
pub given_apart : (f : ℕ → Id) (id j : ℕ) → (f id).given ≡ false → (f j).given ≡ true → j ≢ id
given_apart f id j fresh given e = false≢true (sym fresh ∙ sym (ap (λ (k : ℕ). (f k).given) e) ∙ given)

-- an id that was given reads the file
pub reads_of : (i : Id) (name : List ℕ) (place : ℕ) → i ≡ reading name place → IsReadingOf name i
reads_of i name place e = subst (IsReadingOf name) (sym e) (record { given = refl; reads = refl; named = refl })

take_again : (xs : List ℕ) (n : ℕ) → take (length (take n xs)) xs ≡ take n xs
take_again [] zero = refl
take_again [] (suc n) = refl
take_again (x ∷ xs) zero = refl
take_again (x ∷ xs) (suc n) = ap (λ (ys : List ℕ). x ∷ ys) (take_again xs n)

-- what was read is a front of the file, with one piece more
front_more : (bytes old new : List ℕ) (n : ℕ) → take (length old) bytes ≡ old → new ≡ old ++ take n (drop (length old) bytes) → take (length new) bytes ≡ new
front_more bytes old new n front is =
    let e : new ≡ take (length old + n) bytes = is ∙ ap (λ (xs : List ℕ). xs ++ take n (drop (length old) bytes)) (sym front) ∙ sym (take-add (length old) n bytes) in
    ap (λ (xs : List ℕ). take (length xs) bytes) e ∙ take_again bytes (length old + n) ∙ sym e

pub front_read : (f g : Files) (i : Id) (name old new : List ℕ) (n : ℕ) → i ≡ reading name (length old) → SameFiles f g → take (length old) (bytes_of (f name)) ≡ old
    → new ≡ old ++ take n (drop i.place (bytes_of (g i.name))) → take (length new) (bytes_of (f name)) ≡ new
front_read f g i name old new n e same front is =
    front_more (bytes_of (f name)) old new n front
    (is ∙ ap (λ (x : Id). old ++ take n (drop x.place (bytes_of (g x.name)))) e ∙ ap (λ (o : Option (List ℕ)). old ++ take n (drop (length old) (bytes_of o))) (same name))

whole_by : (xs old new : List ℕ) (n : ℕ) → take (length old) xs ≡ old → drop (length old) xs ≡ [] → new ≡ old ++ take n [] → xs ≡ new
whole_by xs old new n front rest all = grind (arith, common_steps)

-- where nothing is left behind what was read, that is the whole file
pub whole_read : (f g : Files) (i : Id) (name old new : List ℕ) (n : ℕ) → i ≡ reading name (length old) → SameFiles f g → take (length old) (bytes_of (f name)) ≡ old
    → new ≡ old ++ take n (drop i.place (bytes_of (g i.name))) → drop i.place (bytes_of (g i.name)) ≡ [] → bytes_of (f name) ≡ new
whole_read f g i name old new n e same front is none =
    let rest : drop (length old) (bytes_of (f name)) ≡ [] = sym (ap (λ (x : Id). drop x.place (bytes_of (g x.name))) e ∙ ap (λ (o : Option (List ℕ)). drop (length old) (bytes_of o)) (same name)) ∙ none in
    let all : new ≡ old ++ take n [] = is ∙ ap (λ (xs : List ℕ). old ++ take n xs) none in
    whole_by (bytes_of (f name)) old new n front rest all

-- what was read isn't longer than the file
pub front_within : (xs ys : List ℕ) → take (length ys) xs ≡ ys → length ys ≤ length xs
front_within xs ys e = let same : length (take (length ys) xs) ≡ length ys = ap length e in grind (arith, common_steps)
