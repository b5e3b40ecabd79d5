-- The tokens of control words: of which extender and serial they are, and that they stay while the channels of the ports on
-- which extenders hang stay.
use Rattle.std.proofs.Common.{if◌then◌else◌, ◌≡◌, ℕ, ◌==◌, Bool, true, false, List, [], ◌∷◌, drop, Option, Some, None, Result, Ok, Err, refl, sym, ◌∙◌, ap, subst, arith, inl, inr}
use Rattle.std.proofs.lemmas.Bool.{cases_Bool}
use Rattle.exb_model.specs.Tree.{Shape, IsTree, on, trunk}
use Rattle.exb_model.specs.ETags.{Tag, read_etag, stripped}
use Rattle.exb_lldp.specs.declared.announce.Announce.{Announce}
use Rattle.exb_lldp.specs.declared.announce.LldpFault.{LldpFault}
use Rattle.exb_lldp.specs.Announcements.{announced as announcement_in}
use Rattle.exb_frame.specs.TagValues.{TagRoundTrip}
use Rattle.exb_ecp.specs.declared.pdu.Pdu.{Pdu}
use Rattle.exb_ecp.specs.declared.pdu.EcpFault.{EcpFault}
use Rattle.exb_ecp.specs.Frames.{pdu_in}
use Rattle.exb_csp.specs.declared.fault.CspFault.{CspFault}
use Rattle.exb_csp.specs.declared.message.Body.{Body}
use Rattle.exb_csp.specs.declared.message.Body.TheVariants as body
use Rattle.exb_csp.specs.declared.message.Message.{Message}
use Rattle.exb_csp.specs.declared.message.Request.{Request}
use Rattle.exb_csp.specs.declared.message.Response.{Response}
use Rattle.exb_csp.specs.Decoding.{read_message}
use Rattle.exb_extender.specs.Forwarding.{has_etag_type, channel_tag}
use Rattle.exb_link.specs.declared.link_frame.LinkFrame.{LinkFrame}
use Rattle.exb_link.specs.LinkFrames.{is_control}
use Rattle.exb_control_spec.specs.Plans.HeldNumbers.{Held}
use Rattle.exb_world_spec.specs.Worlds.{Way, Up, Down}
use Rattle.exb_world_spec.specs.DataFrames.{hung_at}
use Rattle.exb_world_spec.specs.Runs.Sessions.{Hands, Each, IsOnWay, IsFrameOn, WordFits, KeepsCascades}
use Rattle.exb_world_spec.proofs.Frames.{bare_is, read_typed, tag_fits}
use Rattle.exb_world_spec.proofs.Trunks.{hangs_there, hung_found}
use Rattle.exb_flight.specs.Items.{Key, Item, Data}
use Rattle.exb_flight.specs.Tokens.{datum, holder_in, addressee, content, key_by, key_of_message, key_of_pdu, key_of_frame, key_for, key_on, token_of, items_by, items_on}

none_key : {A : Type 0} {j : A} → None ≡ Some j → ⊥
none_key e = cc

-- ---- the extender of a control frame on its way
module _ (t : Shape) (tree : IsTree t) (round : TagRoundTrip) (h : Held) where
  pub on_way : (m : ℕ) (f : List ℕ) (P : ℕ → List ℕ → Type 0) (k : IsOnWay t h m f P) → (addressee t h m f ≡ Some k.of) × (content f ≡ k.frame)
  on_way m f P k = by_way k.way
    where
      by_way : IsFrameOn t h m f k.of k.frame → (addressee t h m f ≡ Some k.of) × (content f ≡ k.frame)
      by_way (inl e) =
          let untyped : has_etag_type f ≡ false = ap has_etag_type e.1 ∙ (bare_is k.frame k.bare).untyped in
          (rw untyped (ap Some e.0), rw untyped e.1)
      by_way (inr tag) =
          let b = bare_is k.frame k.bare in
          let r = round k.frame (channel_tag tag.channel) (omega (arith, b.long)) (tag_fits tag.channel tag.small) in
          let read : read_etag f ≡ Some (channel_tag tag.channel) = ap read_etag tag.frame ∙ r.0 in
          let typed : has_etag_type f ≡ true = read_typed f (channel_tag tag.channel) read in (
            ap (λ (b : Bool). if b then hung_at t (holder_in h (trunk t m) (read_etag f)) else Some m) typed
                ∙ (ap (λ (o : Option Tag). hung_at t (holder_in h (trunk t m) o)) read ∙ (ap (hung_at t) tag.holds ∙ hung_found t tree k.of (on t k.of) (hangs_there t k.of k.there))),
            ap (λ (b : Bool). if b then stripped f else f) typed ∙ (ap stripped tag.frame ∙ r.1),
          )

-- ---- what a token is of
abbrev pub AskOf : (ℕ → ℕ → Body → Type 0) → Key → Type 0
AskOf P j = (request : Request) × P j.extender j.serial (body.Ask request)

abbrev pub AnswerOf : (ℕ → ℕ → Body → Type 0) → Key → Type 0
AnswerOf P j = (response : Response) × P j.extender j.serial (body.Answer response)

abbrev pub TokenOf : Way → (ℕ → ℕ → Body → Type 0) → Key → Type 0
TokenOf Down P j = AskOf P j
TokenOf Up P j = AnswerOf P j

module _ (P : ℕ → ℕ → Body → Type 0) (n : ℕ) (j : Key) where
  same_some : (a : Key) → Some a ≡ Some j → a ≡ j
  same_some a e = cc

  by_body : (way : Way) (serial : ℕ) (b : Body) → P n serial b → key_by way n serial b ≡ Some j → TokenOf way P j × (j.extender ≡ n)
  by_body Down serial (body.Ask request) p e =
      let is = same_some (record { extender = n; serial = serial }) e in
      ((request, subst (λ (a : Key). P a.extender a.serial (body.Ask request)) is p), ap (λ (a : Key). a.extender) (sym is))
  by_body Down serial (body.Answer response) p e = absurd (none_key e)
  by_body Up serial (body.Ask request) p e = absurd (none_key e)
  by_body Up serial (body.Answer response) p e =
      let is = same_some (record { extender = n; serial = serial }) e in
      ((response, subst (λ (a : Key). P a.extender a.serial (body.Answer response)) is p), ap (λ (a : Key). a.extender) (sym is))

  by_message : (way : Way) (r : Result Message CspFault) → ((m : Message) → r ≡ Ok m → P n m.serial m.body) → key_of_message way n r ≡ Some j → TokenOf way P j × (j.extender ≡ n)
  by_message way (Ok m) p e = by_body way m.serial m.body (p m refl) e
  by_message way (Err fault) p e = absurd (none_key e)

  by_pdu : (way : Way) (r : Result Pdu EcpFault) (f : List ℕ) → ((p : Pdu) → r ≡ Ok p → p.acknowledgement ≡ false → (m : Message) → read_message (drop 18 f) ≡ Ok m → P n m.serial m.body) → key_of_pdu way n r f ≡ Some j → TokenOf way P j × (j.extender ≡ n)
  by_pdu way (Err fault) f p e = absurd (none_key e)
  by_pdu way (Ok x) f p e =
      elim (cases_Bool (x.subtype == 2)) [
        | inr z ↦ absurd (none_key (rw z at e))
        | inl z ↦ elim (cases_Bool x.acknowledgement) [
          | inl a ↦ absurd (none_key (rw (z, a) at e))
          | inr a ↦ by_message way (read_message (drop 18 f)) (p x refl a) (rw (z, a) at e)
        ]
      ]

  by_frame : (way : Way) (r : Result Announce LldpFault) (f : List ℕ) → Hands f (P n) → key_of_frame way n r f ≡ Some j → TokenOf way P j × (j.extender ≡ n)
  by_frame Down r f hands e = by_pdu Down (pdu_in f) f (λ p at ack. (hands.each p at ack).each) e
  by_frame Up (Ok a) f hands e = absurd (none_key e)
  by_frame Up (Err fault) f hands e = by_pdu Up (pdu_in f) f (λ p at ack. (hands.each p at ack).each) e

module _ (t : Shape) (tree : IsTree t) (round : TagRoundTrip) (h : Held) where
  -- a token on a link is of a request that was asked, or of an answer that was stored
  pub token_is : (way : Way) (P : ℕ → ℕ → Body → Type 0) (m : ℕ) (x : LinkFrame) (j : Key) → is_control x ≡ true → WordFits t h P m x → key_on t h way m x ≡ Some j → TokenOf way P j × (addressee t h m x.bytes ≡ Some j.extender)
  unfolding key_on
  token_is way P m x j control fits e =
      let k = fits (control) in
      let o = on_way t tree round h m x.bytes (λ n c. Hands c (P n)) k in
      let there : key_of_frame way k.of (announcement_in k.frame) k.frame ≡ Some j = ap (key_for way (Some k.of)) (sym o.1) ∙ (ap (λ (n : Option ℕ). key_for way n (content x.bytes)) (sym o.0) ∙ e) in
      let r = by_frame P k.of j way (announcement_in k.frame) k.frame k.fits there in
      (r.0, o.0 ∙ ap Some (sym r.1))

  -- it stays where those channels stay
  pub key_kept : (g : Held) → KeepsCascades t h g → (way : Way) (P : ℕ → ℕ → Body → Type 0) (m : ℕ) (x : LinkFrame) → is_control x ≡ true → WordFits t h P m x → key_on t h way m x ≡ key_on t g way m x
  unfolding key_on
  key_kept g keeps way P m x control fits =
      let k = fits (control) in
      let here = on_way t tree round h m x.bytes (λ n c. Hands c (P n)) k in
      let there = on_way t tree round g m x.bytes (λ n c. Hands c (P n)) (record { of = k.of; frame = k.frame; there = k.there; bare = k.bare; way = way_kept k k.way; fits = k.fits }) in
      ap (λ (n : Option ℕ). key_for way n (content x.bytes)) (here.0 ∙ sym there.0)
    where
      way_kept : (k : IsOnWay t h m x.bytes (λ n c. Hands c (P n))) → IsFrameOn t h m x.bytes k.of k.frame → IsFrameOn t g m x.bytes k.of k.frame
      way_kept k (inl e) = inl e
      way_kept k (inr tag) = inr (record {
        channel = tag.channel;
        some = tag.some;
        small = tag.small;
        frame = tag.frame;
        deep = tag.deep;
        home = tag.home;
        holds = subst (λ (i : ℕ). g.port i tag.channel ≡ Some (on t k.of)) (sym tag.home)
            (keeps k.of tag.channel k.there tag.deep tag.some (subst (λ (i : ℕ). h.port i tag.channel ≡ Some (on t k.of)) tag.home tag.holds));
      })

  pub items_kept : (g : Held) → KeepsCascades t h g → (way : Way) (P : ℕ → ℕ → Body → Type 0) (m : ℕ) (ws : List LinkFrame) → Each (WordFits t h P m) ws → items_on t h way m ws ≡ items_on t g way m ws
  items_kept g keeps way P m [] all = refl
  items_kept g keeps way P m (x ∷ xs) all =
      elim (cases_Bool (is_control x)) [
        | inr e ↦ rw e (ap (λ (ys : List Item). Data (datum x) ∷ ys) (items_kept g keeps way P m xs all.1))
        | inl e ↦ rw e (ap (λ (o : Option Key). token_of o (items_by (key_on t h way m) xs)) (key_kept g keeps way P m x e all.0) ∙ ap (token_of (key_on t g way m x)) (items_kept g keeps way P m xs all.1))
      ]
