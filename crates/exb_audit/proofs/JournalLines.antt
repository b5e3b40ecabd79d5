-- Lines of the journal, word by word.
use Rattle.std.proofs.Common.{not, ◌≡◌, inl, inr, ℕ, zero, suc, ◌+◌, ◌*◌, ◌<◌, ◌≤◌, ◌^◌, ◌==◌, ◌||◌, cond, Bool, true, false, List, [], ◌∷◌, length, get_or, drop, Option, Some, None, refl, sym, ap, ◌∙◌, subst, arith}
use Rattle.std.specs.Prelude.{codes, is_some, option_map, option_and_then}
use Rattle.std.specs.Char.{digit_value}
use Rattle.std.specs.List.{slice_split, onto_first}
use Rattle.std.specs.Option.{option_map_or}
use Rattle.std.specs.Str.{bytes_eq}
use Rattle.std.specs.Str.Parse.{digits_value, digits_value_after}
use Rattle.std.proofs.lemmas.Bool.{cases_Bool, false≢true}
use Rattle.std.proofs.lemmas.List.{drop_more}
use Rattle.std.proofs.lemmas.Option.{slice_get_past}
use denote.Ref.{Bor}
use Rattle.exb_model.specs.declared.event.Cause.{Cause}
use Rattle.exb_model.specs.Lists.{numbered}
use Rattle.exb_trace_spec.specs.TraceChecker.{record_of}
use Rattle.exb_trace_spec.specs.JournalLines.{Relayed, Ignored, Ticked, Committed, Refused, Rose, Stayed, Settled, arrival_by, cause_by, cause_in, simple_in, refused_in, entry_by, entry_in}
use Rattle.exb_trace_spec.specs.TraceTexts.{passing_in}
use Rattle.exb_trace_spec.specs.TextFields.{is_number, number_in, port_in, extended_in, words_in}
use Rattle.exb_audit.specs.declared.journal_lines.RecordName.{RecordName}
use Rattle.exb_audit.specs.LineWords.{is_arrival_entry, is_long_entry, AreFew, NamesNone, IsNamedBy, Names, IsNamed}

-- ---- parts of a text: there is always one
pub record IsCons (xs : List (List ℕ)) : Type 0 where
  pub first : List ℕ
  pub rest : List (List ℕ)
  pub is : xs ≡ first ∷ rest

onto : (x : ℕ) (parts : List (List ℕ)) → IsCons (onto_first x parts)
onto x [] = record { first = x ∷ []; rest = []; is = refl }
onto x (p ∷ ps) = record { first = x ∷ p; rest = ps; is = refl }

pub split_some : (p : ℕ → Bool) (xs : List ℕ) → IsCons (slice_split p xs)
split_some p [] = record { first = []; rest = []; is = refl }
split_some p (x ∷ xs) = by_test (p x)
  where
    by_test : (b : Bool) → IsCons (cond b ([] ∷ slice_split p xs) (onto_first x (slice_split p xs)))
    by_test true = record { first = []; rest = slice_split p xs; is = refl }
    by_test false = onto x (slice_split p xs)

words_some : (text : List ℕ) → IsCons (words_in text)
unfolding words_in
words_some text = split_some (λ c. c == 32) text

abbrev Rest : Type 0
Rest = Option (Bor (List ℕ))

pub goes_on : (line w : List ℕ) (o : Rest) (r : Bor (List ℕ)) → words_in line ≡ w ∷ option_map_or (λ rest. words_in rest.now) o [] → o ≡ Some r → words_in line ≡ w ∷ words_in r.now
goes_on line w o r e is = e ∙ ap (λ p. w ∷ option_map_or (λ (rest : Bor (List ℕ)). words_in rest.now) p []) is

pub ends : (line w : List ℕ) (o : Rest) → words_in line ≡ w ∷ option_map_or (λ rest. words_in rest.now) o [] → o ≡ None → words_in line ≡ w ∷ []
ends line w o e is = e ∙ ap (λ p. w ∷ option_map_or (λ (rest : Bor (List ℕ)). words_in rest.now) p []) is

pub ends_no : (line w : List ℕ) (o : Rest) → words_in line ≡ w ∷ option_map_or (λ rest. words_in rest.now) o [] → is_some o ≡ false → words_in line ≡ w ∷ []
ends_no line w None e h = e
ends_no line w (Some r) e h = absurd (false≢true (sym h))

pub record IsMore (line w : List ℕ) : Type 0 where
  pub next : List ℕ
  pub rest : List (List ℕ)
  pub is : words_in line ≡ w ∷ next ∷ rest

pub more : (line w : List ℕ) (o : Rest) → words_in line ≡ w ∷ option_map_or (λ rest. words_in rest.now) o [] → is_some o ≡ true → IsMore line w
more line w None e h = absurd (false≢true h)
more line w (Some r) e h = (let k = words_some r.now in record { next = k.first; rest = k.rest; is = e ∙ ap (λ (zs : List (List ℕ)). w ∷ zs) k.is })

-- ---- names of ports
pub many_parts : (text a b : List ℕ) (o p : Rest) (r : Bor (List ℕ)) → slice_split (λ x. x == 46) text ≡ a ∷ option_map_or (λ rest. slice_split (λ x. x == 46) rest.now) o [] → o ≡ Some r →
    slice_split (λ x. x == 46) r.now ≡ b ∷ option_map_or (λ rest. slice_split (λ x. x == 46) rest.now) p [] → is_some p ≡ true → None ≡ extended_in (slice_split (λ x. x == 46) text)
many_parts text a b o None r e is f h = absurd (false≢true h)
many_parts text a b o (Some q) r e is f h =
    let k = split_some (λ x. x == 46) q.now in
    sym (ap extended_in (e ∙ ap (λ z. a ∷ option_map_or (λ (rest : Bor (List ℕ)). slice_split (λ x. x == 46) rest.now) z []) is ∙ ap (λ (zs : List (List ℕ)). a ∷ zs) (f ∙ ap (λ (zs : List (List ℕ)). b ∷ zs) k.is)))

-- ---- numbers
grows : (n : ℕ) (cs : List ℕ) → n ≤ digits_value_after 10 n cs
grows n [] = omega arith
grows n (c ∷ cs) = (let k = grows (n * 10 + digit_value c) cs in omega (arith, k))

pub too_large : (ds : List ℕ) (i v : ℕ) → i < length ds → digits_value_after 10 v (drop i ds) ≡ digits_value 10 ds → 2 ^ 64 ≤ v * 10 + digit_value (get_or ds i 0) → 2 ^ 64 ≤ digits_value 10 ds
too_large ds i v l e h =
    let k : v * 10 + digit_value (get_or ds i 0) ≤ digits_value_after 10 (v * 10 + digit_value (get_or ds i 0)) (drop (i + 1) ds) = grows (v * 10 + digit_value (get_or ds i 0)) (drop (i + 1) ds) in
    let is : digits_value_after 10 (v * 10 + digit_value (get_or ds i 0)) (drop (i + 1) ds) ≡ digits_value 10 ds = sym (ap (digits_value_after 10 v) (drop_more ds i 0 l)) ∙ e in
    subst (λ z. 2 ^ 64 ≤ z) is (omega (arith, k, h))

number_no : (text : List ℕ) → is_number text ≡ false → number_in text ≡ None
unfolding number_in
number_no text e = ap (λ b. cond b (Some (digits_value 10 text)) None) e

number_yes : (text : List ℕ) → is_number text ≡ true → number_in text ≡ Some (digits_value 10 text)
unfolding number_in
number_yes text e = ap (λ b. cond b (Some (digits_value 10 text)) None) e

pub number_is : (text : List ℕ) → is_number text ≡ is_some (number_in text)
number_is text =
    elim (cases_Bool (is_number text)) [
      | inl e ↦ e ∙ sym (ap is_some (number_yes text e))
      | inr e ↦ e ∙ sym (ap is_some (number_no text e))
    ]

mapped : {A B : Type 0} (f : A → B) (o : Option A) → is_some (option_map f o) ≡ is_some o
mapped f None = refl
mapped f (Some x) = refl

chosen : {A : Type 0} (b : Bool) (x : A) → is_some (cond b (Some x) None) ≡ b
chosen true x = refl
chosen false x = refl

-- ---- causes
pub cause_no_needed : (reason needed limit : List ℕ) → is_number needed ≡ false → false ≡ is_some (cause_in reason needed limit)
cause_no_needed reason needed limit e = sym (ap (λ o. is_some (option_and_then (λ n. option_and_then (cause_by reason n) (number_in limit)) o)) (number_no needed e))

pub cause_no_limit : (reason needed limit : List ℕ) → is_number needed ≡ true → is_number limit ≡ false → false ≡ is_some (cause_in reason needed limit)
cause_no_limit reason needed limit e h =
    sym (ap (λ o. is_some (option_and_then (λ n. option_and_then (cause_by reason n) (number_in limit)) o)) (number_yes needed e)
    ∙ ap (λ o. is_some (option_and_then (cause_by reason (digits_value 10 needed)) o)) (number_no limit h))

cause_both : (reason needed limit : List ℕ) → is_number needed ≡ true → is_number limit ≡ true → is_some (cause_in reason needed limit) ≡ is_some (cause_by reason (digits_value 10 needed) (digits_value 10 limit))
cause_both reason needed limit e h =
    ap (λ o. is_some (option_and_then (λ n. option_and_then (cause_by reason n) (number_in limit)) o)) (number_yes needed e)
    ∙ ap (λ o. is_some (option_and_then (cause_by reason (digits_value 10 needed)) o)) (number_yes limit h)

pub cause_channels : (reason needed limit : List ℕ) → is_number needed ≡ true → is_number limit ≡ true → bytes_eq reason (codes "channels") ≡ true → true ≡ is_some (cause_in reason needed limit)
cause_channels reason needed limit e h r = sym (cause_both reason needed limit e h ∙ rw r refl)

pub cause_groups : (reason needed limit : List ℕ) → is_number needed ≡ true → is_number limit ≡ true → bytes_eq reason (codes "channels") ≡ false → bytes_eq reason (codes "groups") ≡ is_some (cause_in reason needed limit)
cause_groups reason needed limit e h r = sym (cause_both reason needed limit e h ∙ rw r (chosen (bytes_eq reason (codes "groups")) _))

-- ---- records
arrival_o : List ℕ → List ℕ → Option ℕ → Bool
arrival_o kind index o = is_some (option_and_then (λ p. option_and_then (arrival_by kind p) (number_in index)) o)

pub arrival_no_number : (kind at index : List ℕ) → is_number index ≡ false → false ≡ is_arrival_entry kind at index
arrival_no_number kind at index e = by_port (port_in at)
  where
    by_port : (o : Option ℕ) → false ≡ is_some (option_and_then (λ p. option_and_then (arrival_by kind p) (number_in index)) o)
    by_port None = refl
    by_port (Some p) = sym (ap (λ z. is_some (option_and_then (arrival_by kind p) z)) (number_no index e))

arrival_both : (kind at index : List ℕ) → is_some (port_in at) ≡ true → is_number index ≡ true → (b : Bool) → ((p n : ℕ) → is_some (arrival_by kind p n) ≡ b) → b ≡ is_arrival_entry kind at index
arrival_both kind at index some e b each = by_port (port_in at) some
  where
    by_port : (o : Option ℕ) → is_some o ≡ true → b ≡ is_some (option_and_then (λ p. option_and_then (arrival_by kind p) (number_in index)) o)
    by_port None h = absurd (false≢true h)
    by_port (Some p) h = sym (ap (λ z. is_some (option_and_then (arrival_by kind p) z)) (number_yes index e) ∙ each p (digits_value 10 index))

pub arrival_relay : (kind at index : List ℕ) → is_some (port_in at) ≡ true → is_number index ≡ true → bytes_eq kind (codes "relay") ≡ true → true ≡ is_arrival_entry kind at index
arrival_relay kind at index some e r = arrival_both kind at index some e true (λ p n. rw r refl)

pub arrival_ignore : (kind at index : List ℕ) → is_some (port_in at) ≡ true → is_number index ≡ true → bytes_eq kind (codes "relay") ≡ false → bytes_eq kind (codes "ignore") ≡ is_arrival_entry kind at index
arrival_ignore kind at index some e r = arrival_both kind at index some e (bytes_eq kind (codes "ignore")) (λ p n. rw r (chosen (bytes_eq kind (codes "ignore")) _))

-- ---- others
pub refused_number : (kind what : List ℕ) (x : Cause) → bytes_eq kind (codes "refuse") ≡ true → is_number what ≡ is_some (refused_in kind what x)
refused_number kind what x e = number_is what ∙ sym (rw e (mapped (λ n. Refused n x) (number_in what)))

pub simple_tick : (kind what : List ℕ) → bytes_eq kind (codes "tick") ≡ true → is_number what ≡ is_some (simple_in kind what)
simple_tick kind what e = number_is what ∙ sym (rw e (mapped Ticked (number_in what)))

pub simple_commit : (kind what : List ℕ) → bytes_eq kind (codes "tick") ≡ false → bytes_eq kind (codes "commit") ≡ true → is_number what ≡ is_some (simple_in kind what)
simple_commit kind what e h = number_is what ∙ sym (rw (e, h) (mapped Committed (number_in what)))

-- ---- whole lines
pub entry_is : (line : List ℕ) (ws : List (List ℕ)) → words_in line ≡ ws → entry_in line ≡ entry_by ws
unfolding entry_in
entry_is line ws e = ap entry_by e

pub long_none : (kind what reason rest n l : List ℕ) (r : List ℕ) → words_in rest ≡ n ∷ words_in r → IsMore r l → false ≡ is_long_entry kind what reason rest
long_none kind what reason rest n l r e k = sym (ap (λ ws. is_some (entry_by (kind ∷ what ∷ reason ∷ ws))) (e ∙ ap (λ (zs : List (List ℕ)). n ∷ zs) k.is))

pub passing_none : (line way device side hex r1 r2 r3 : List ℕ) → words_in line ≡ way ∷ words_in r1 → words_in r1 ≡ device ∷ words_in r2 → words_in r2 ≡ side ∷ words_in r3 → IsMore r3 hex → None ≡ passing_in (words_in line)
passing_none line way device side hex r1 r2 r3 a b c k =
    sym (ap passing_in (a ∙ ap (λ (zs : List (List ℕ)). way ∷ zs) (b ∙ ap (λ (zs : List (List ℕ)). device ∷ zs) (c ∙ ap (λ (zs : List (List ℕ)). side ∷ zs) k.is))))

pub settled_is : (line kind : List ℕ) → words_in line ≡ kind ∷ [] → bytes_eq kind (codes "settled") ≡ is_some (entry_in line)
settled_is line kind e = sym (ap is_some (entry_is line (kind ∷ []) e) ∙ chosen (bytes_eq kind (codes "settled")) Settled)

-- ---- what a line names
module _ (captures : ℕ → List (List ℕ)) where
  pub settled_names : (kind : List ℕ) → record_of captures (entry_by (kind ∷ [])) ≡ None
  settled_names kind = by_test (bytes_eq kind (codes "settled"))
    where
      by_test : (b : Bool) → record_of captures (cond b (Some Settled) None) ≡ None
      by_test true = refl
      by_test false = refl

  ticks : (o : Option ℕ) → record_of captures (option_map Ticked o) ≡ None
  ticks None = refl
  ticks (Some n) = refl

  commits : (o : Option ℕ) → record_of captures (option_map Committed o) ≡ None
  commits None = refl
  commits (Some n) = refl

  rises : (o : Option ℕ) → record_of captures (option_map Rose o) ≡ None
  rises None = refl
  rises (Some n) = refl

  pub simple_names : (kind what : List ℕ) → record_of captures (entry_by (kind ∷ what ∷ [])) ≡ None
  simple_names kind what =
      elim (cases_Bool (bytes_eq kind (codes "tick"))) [
        | inl e ↦ rw e (ticks (number_in what))
        | inr e ↦ elim (cases_Bool (bytes_eq kind (codes "commit"))) [
          | inl h ↦ rw (e, h) (commits (number_in what))
          | inr h ↦ elim (cases_Bool (bytes_eq kind (codes "up"))) [
            | inl k ↦ rw (e, h, k) (rises (port_in what))
            | inr k ↦ rw (e, h, k) refl
          ]
        ]
      ]

  refuses : (x : Cause) (o : Option ℕ) → record_of captures (option_map (λ n. Refused n x) o) ≡ None
  refuses x None = refl
  refuses x (Some n) = refl

  stays : (x : Cause) (o : Option ℕ) → record_of captures (option_map (λ p. Stayed p x) o) ≡ None
  stays x None = refl
  stays x (Some n) = refl

  refused_names : (kind what : List ℕ) (x : Cause) → record_of captures (refused_in kind what x) ≡ None
  refused_names kind what x =
      elim (cases_Bool (bytes_eq kind (codes "refuse"))) [
        | inl e ↦ rw e (refuses x (number_in what))
        | inr e ↦ elim (cases_Bool (bytes_eq kind (codes "noup"))) [
          | inl h ↦ rw (e, h) (stays x (port_in what))
          | inr h ↦ rw (e, h) refl
        ]
      ]

  five : (kind what : List ℕ) (o : Option Cause) → record_of captures (option_and_then (refused_in kind what) o) ≡ None
  five kind what None = refl
  five kind what (Some x) = refused_names kind what x

  pub long_names : (kind a i s : List ℕ) (rest : List (List ℕ)) → record_of captures (entry_by (kind ∷ a ∷ i ∷ s ∷ rest)) ≡ None
  long_names kind a i s [] = refl
  long_names kind a i s (l ∷ []) = five kind a (cause_in i s l)
  long_names kind a i s (l ∷ m ∷ ms) = refl

  other_kind : (kind : List ℕ) (p n : ℕ) → (bytes_eq kind (codes "relay") || bytes_eq kind (codes "ignore")) ≡ false → record_of captures (arrival_by kind p n) ≡ None
  other_kind kind p n e = by_tests (bytes_eq kind (codes "relay")) (bytes_eq kind (codes "ignore")) e
    where
      by_tests : (a b : Bool) → (a || b) ≡ false → record_of captures (cond a (Some (Relayed p n)) (cond b (Some (Ignored p n)) None)) ≡ None
      by_tests true b h = absurd (false≢true (sym h))
      by_tests false true h = absurd (false≢true (sym h))
      by_tests false false h = refl

  arrival_names : (kind : List ℕ) (o m : Option ℕ) → ((p n : ℕ) → o ≡ Some p → m ≡ Some n → record_of captures (arrival_by kind p n) ≡ None) → record_of captures (option_and_then (λ p. option_and_then (arrival_by kind p) m) o) ≡ None
  arrival_names kind None m each = refl
  arrival_names kind (Some p) None each = refl
  arrival_names kind (Some p) (Some n) each = each p n refl refl

  pub other_names : (kind at index : List ℕ) → (bytes_eq kind (codes "relay") || bytes_eq kind (codes "ignore")) ≡ false → record_of captures (entry_by (kind ∷ at ∷ index ∷ [])) ≡ None
  other_names kind at index e = arrival_names kind (port_in at) (number_in index) (λ p n x y. other_kind kind p n e)

  numbered_past : (xs : List (List ℕ)) (n : ℕ) → length xs < n → numbered xs n ≡ None
  numbered_past xs zero l = absurd (omega arith)
  numbered_past xs (suc n) l = slice_get_past xs n (omega (arith, l))

  past_names : (kind : List ℕ) (p n : ℕ) → length (captures p) < n → record_of captures (arrival_by kind p n) ≡ None
  past_names kind p n l = by_tests (bytes_eq kind (codes "relay")) (bytes_eq kind (codes "ignore"))
    where
      by_tests : (a b : Bool) → record_of captures (cond a (Some (Relayed p n)) (cond b (Some (Ignored p n)) None)) ≡ None
      by_tests true b = numbered_past (captures p) n l
      by_tests false true = numbered_past (captures p) n l
      by_tests false false = refl

  pub none_names : (kind at index : List ℕ) → AreFew captures → NamesNone (port_in at) (number_in index) → record_of captures (entry_by (kind ∷ at ∷ index ∷ [])) ≡ None
  none_names kind at index few none =
      arrival_names kind (port_in at) (number_in index) (λ p n x y. (
      let past : 2 ^ 64 ≤ n = subst (λ m. NamesNone (Some p) m) y (subst (λ o. NamesNone o (number_in index)) x none) in
      let low = few p in
      past_names kind p n (omega (arith, past, low))
      ))

names_by : (kind : List ℕ) (p n : ℕ) → (bytes_eq kind (codes "relay") || bytes_eq kind (codes "ignore")) ≡ true → Names (arrival_by kind p n) p n
names_by kind p n e = by_tests (bytes_eq kind (codes "relay")) (bytes_eq kind (codes "ignore")) e
  where
    by_tests : (a b : Bool) → (a || b) ≡ true → Names (cond a (Some (Relayed p n)) (cond b (Some (Ignored p n)) None)) p n
    by_tests true b h = inl refl
    by_tests false true h = inr refl
    by_tests false false h = absurd (false≢true h)

pub named_is : (line kind at index : List ℕ) (r : Option RecordName) → words_in line ≡ kind ∷ at ∷ index ∷ [] → (bytes_eq kind (codes "relay") || bytes_eq kind (codes "ignore")) ≡ true → IsNamedBy at index r → IsNamed line r
named_is line kind at index None e k none = λ captures few. ap (record_of captures) (entry_is line (kind ∷ at ∷ index ∷ []) e) ∙ none_names captures kind at index few none
named_is line kind at index (Some named) e k is = (
  subst (λ o. Names o named.port named.index) (sym (entry_is line (kind ∷ at ∷ index ∷ []) e ∙ ap (λ o. option_and_then (λ p. option_and_then (arrival_by kind p) (number_in index)) o) is.0 ∙ ap (option_and_then (arrival_by kind named.port)) is.1)) (names_by kind named.port named.index k),
  is.2,
)

pub none_line : (line : List ℕ) (ws : List (List ℕ)) → words_in line ≡ ws → ((captures : ℕ → List (List ℕ)) → record_of captures (entry_by ws) ≡ None) → (captures : ℕ → List (List ℕ)) → AreFew captures → record_of captures (entry_in line) ≡ None
none_line line ws e none captures few = ap (record_of captures) (entry_is line ws e) ∙ none captures

pub some_not : (a b : Bool) → a ≡ not b → b ≡ false → a ≡ true
some_not a b e h = e ∙ ap not h
