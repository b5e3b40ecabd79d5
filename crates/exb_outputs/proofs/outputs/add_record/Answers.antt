use Rattle.std.proofs.Common.{rules, ◌≡◌, ◌+◌, ◌++◌, ◌⊎◌, List, [], ℕ, length, length-append, ap, ◌∙◌, subst, append_assoc, arith}
use Rattle.std.specs.Prelude.{OnOk, OnErr}
use Rattle.std.proofs.lemmas.Result.{on_ok_weaker}
use Rattle.exb_shelf.specs.Files.{Adds, AddsFront, SameFiles}
use Rattle.exb_outputs.proofs.OutputPrefixes.{nothing_added}
use Rattle.exb_outputs.proofs.outputs.add_record.Goals as goal

pub returns-then-is_err-clause-front : goal.returns-then-is_err-clause-front
returns-then-is_err-clause-front g c = λ t. nothing_added (g.S.Shelf.file c.args.shelf.now) _ _

pub returns-clause-kept_or_written : goal.returns-clause-kept_or_written
returns-clause-kept_or_written g c = λ t.
    let S = g.S.Shelf in
    let before = c.args.file.now.piece.items in
    let head = c.args.head.now in
    let bytes = c.args.bytes.now in
    let extended : c.extend_from_slice.new.self.items ≡ before ++ head = search rules in
    let whole : c.extend_from_slice.new.self.items ++ bytes ≡ before ++ (head ++ bytes) = ap (λ (xs : List ℕ). xs ++ bytes) extended ∙ append_assoc before head bytes in
    subst
    (λ (xs : List ℕ). OnOk c.add.result
    ((SameFiles (S.file c.args.shelf.now) (S.file c.add.new.shelf) × (c.add.new.file.piece.items ≡ xs))
    ⊎ (Adds (S.file c.args.shelf.now) (S.file c.add.new.shelf) (S.ids c.args.shelf.now c.args.file.now.id).name xs × (c.add.new.file.piece.items ≡ []))))
    whole (c.add.ensures.kept_or_written t)

pub returns-clause-front : goal.returns-clause-front
returns-clause-front g c = λ t.
    let S = g.S.Shelf in
    let before = c.args.file.now.piece.items in
    let head = c.args.head.now in
    let bytes = c.args.bytes.now in
    let extended : c.extend_from_slice.new.self.items ≡ before ++ head = search rules in
    let whole : c.extend_from_slice.new.self.items ++ bytes ≡ before ++ (head ++ bytes) = ap (λ (xs : List ℕ). xs ++ bytes) extended ∙ append_assoc before head bytes in
    subst (λ (xs : List ℕ). OnErr c.add.result (AddsFront (S.file c.args.shelf.now) (S.file c.add.new.shelf) (S.ids c.args.shelf.now c.args.file.now.id).name xs)) whole (c.add.ensures.front t)

pub returns-clause-counted : goal.returns-clause-counted
returns-clause-counted g c =
    let before = c.args.file.now.piece.items in
    let head = c.args.head.now in
    let extended : c.extend_from_slice.new.self.items ≡ before ++ head = search rules in
    let longer : length c.extend_from_slice.new.self.items ≡ length before + length head = ap length extended ∙ length-append before head in
    let both = length-append head c.args.bytes.now in
    on_ok_weaker c.add.result (λ sum fits. sum (let fits' = fits in omega (arith, longer, both, fits')) ∙ omega (arith, longer, both)) c.add.ensures.counted
