-- A line that was read is one that may come.
use Rattle.std.proofs.Common.{◌≡◌, ℕ, ◌+◌, ◌++◌, ◌^◌, ◌<◌, not, Bool, true, false, cond, List, [], Some, None, Result, Ok, Err, IfOk, is_some, refl, ap, ◌∙◌, sym, subst, append_assoc, codes, length}
use Rattle.std.specs.Fmt.{decimal}
use Rattle.std.proofs.lemmas.List.{append-nil}
use Rattle.csub_tree.specs.declared.tree.CType.{CType}
use Rattle.csub_tree.specs.declared.tree.CPrototype.{CPrototype}
use Rattle.csub_tree.specs.declared.tree.CStatic.{CStatic}
use Rattle.csub_tree.specs.declared.tree.CStmt.{CStmt}
use Rattle.csub_tree.specs.Checked.{ends_block}
use Rattle.csub_tree.specs.Spelling as spell
use Rattle.csub_text.specs.Written.{IsStatement}
use Rattle.csub_text.specs.Read as read
use Rattle.csub_text.specs.Read.{Got}
use Rattle.csub_text.specs.ReadFile as of
use Rattle.csub_text.specs.ReadLine.{read_line}
use Rattle.csub_text.specs.declared.places.Place.{Place}
use Rattle.csub_text.specs.declared.places.Place.TheVariants.{Start, Include, Structs, Fields, Items, Prototypes, Statics, Functions, Named, Headed, Locals, Statements, Blocks}
use Rattle.csub_text.specs.Lines as fits
use Rattle.csub_text.specs.Lines.{Fits}
use Rattle.csub_text.proofs.Valid.{Gives, none, some, before_name_valid}
use Rattle.csub_text.proofs.ValidFile.{static_valid, prototype_valid, name_line_valid, head_valid, field_line_valid, local_line_valid, statement_line_valid}
use Rattle.csub_text.proofs.LinesRead.{line_read}
use Rattle.csub_reader.specs.declared.fault.Stop.{Stop}
use Rattle.csub_reader.specs.declared.fault.Stop.TheVariants.{NoText, NoMem}
use Rattle.csub_reader.specs.Reads.{Reads}
use Rattle.csub_reader.specs.Follows as To
use Rattle.csub_reader.specs.Follows.{Goes, Follows}

abbrev first_in : {A : Type 0} → A → Got A → A
first_in x None = x
first_in x (Some p) = p.0

valid : {A : Type 0} {P : A → Type 0} (p : Got A) (x : A) (j : List ℕ) → Gives P p → p ≡ Some (x, j) → P x
valid None x j none e = absurd (cc)
valid {P = P} (Some q) x j (some y k h) e = subst P (ap (first_in x) e) h

-- ---- places between declarations

name_pieces : (s b e l r : List ℕ) → (s ++ b ++ (e ++ l)) ++ r ≡ ((s ++ b ++ e) ++ l) ++ r
name_pieces s b e l r = simp append_assoc

pub named : (n : ℕ) (called old new : List ℕ) → old ≡ (codes "/* " ++ called ++ codes " */\n") ++ new → of.name_line old ≡ Some (called, new) → Goes (Functions n) old (Ok (Named n)) new
named n called old new is got =
    (fits.name_line called, is ∙ name_pieces (codes "/* ") called (codes " */") (codes "\n") new, fits.name n called (valid (of.name_line old) called new (name_line_valid old) got))

pub static_placed : (n m : ℕ) (g : CStatic) (old new : List ℕ) → m ≡ n + 1 → old ≡ spell.static_text n g ++ new → of.static_text n old ≡ Some (g, new) → Goes (Statics n) old (Ok (Statics m)) new
static_placed n m g old new count is got =
    (spell.static_text n g, is, subst (λ k. Fits (Statics n) (spell.static_text n g) (Statics k)) (sym count) (fits.static n g (valid (of.static_text n old) g new (static_valid n old) got)))

pub prototype_placed : (n m : ℕ) (p : CPrototype) (old new : List ℕ) → m ≡ n + 1 → old ≡ spell.prototype_text n p ++ new → of.prototype n old ≡ Some (p, new) → Goes (Prototypes n) old (Ok (Prototypes m)) new
prototype_placed n m p old new count is got =
    (spell.prototype_text n p, is, subst (λ k. Fits (Prototypes n) (spell.prototype_text n p) (Prototypes k)) (sym count) (fits.prototype n p (valid (of.prototype n old) p new (prototype_valid n old) got)))

pub past_statics : (n : ℕ) (old new : List ℕ) (r : Result Place Stop) → Goes (Functions 0) old r new → Goes (Statics n) old r new
past_statics n old new (Ok q) g = (g.0, g.1, fits.no_static n g.0 q g.2)
past_statics n old new (Err e) g = tt

pub past_prototypes : (n : ℕ) (old new : List ℕ) (r : Result Place Stop) → Goes (Statics 0) old r new → Goes (Prototypes n) old r new
past_prototypes n old new (Ok q) g = (g.0, g.1, fits.no_prototype n g.0 q g.2)
past_prototypes n old new (Err e) g = tt

pub past_structs : (n : ℕ) (old new : List ℕ) (r : Result Place Stop) → Goes (Prototypes 0) old r new → Goes (Structs n) old r new
past_structs n old new (Ok q) g = (g.0, g.1, fits.no_struct n g.0 q g.2)
past_structs n old new (Err e) g = tt

-- ---- within a struct

four : (a b c l r : List ℕ) → (a ++ b) ++ (c ++ l ++ r) ≡ ((a ++ b ++ c) ++ l) ++ r
four a b c l r = simp append_assoc

pub struct_placed : (n : ℕ) (old mid new : List ℕ) → old ≡ (codes "struct s" ++ decimal n) ++ mid → mid ≡ codes " {\n" ++ new → Goes (Structs n) old (Ok (Fields n 0)) new
struct_placed n old mid new is more =
    (fits.struct_line n, is ∙ ap (λ t. (codes "struct s" ++ decimal n) ++ t) more ∙ four (codes "struct s") (decimal n) (codes " {") (codes "\n") new, fits.struct n)

abbrev EndsStruct : ℕ → List ℕ → Place → List ℕ → Type 0
EndsStruct n old q new = (q ≡ Structs (n + 1)) × (old ≡ codes "};\n" ++ new)

abbrev IfEnds : ℕ → List ℕ → Result Place Stop → List ℕ → Type 0
IfEnds n old r new = IfOk r (λ q. EndsStruct n old q new)

pub fields_ended : (n k : ℕ) (old new : List ℕ) (r : Result Place Stop) → IfEnds n old r new → Goes (Fields n k) old r new
fields_ended n k old new (Ok q) h = (codes "};\n", h.1, subst (λ p. Fits (Fields n k) (codes "};\n") p) (sym h.0) (fits.fields_end n k))
fields_ended n k old new (Err e) h = tt

pub items_ended : (n : ℕ) (old new : List ℕ) (r : Result Place Stop) → IfEnds n old r new → Goes (Items n) old r new
items_ended n old new (Ok q) h = (codes "};\n", h.1, subst (λ p. Fits (Items n) (codes "};\n") p) (sym h.0) (fits.items_end n))
items_ended n old new (Err e) h = tt

items_pieces : (i t s l r : List ℕ) → i ++ (t ++ (s ++ l ++ r)) ≡ (i ++ (t ++ s) ++ l) ++ r
items_pieces i t s l r = simp append_assoc

pub items_placed : (n k : ℕ) (t : CType) (old first mid new : List ℕ) → old ≡ codes "    " ++ first → first ≡ spell.before_name t ++ mid → mid ≡ codes "items[];\n" ++ new → read.before_name first ≡ Some (t, mid)
    → Goes (Fields n k) old (Ok (Items n)) new
items_placed n k t old first mid new a b c got =
    (spell.items_line (Some t), a ∙ ap (λ x. codes "    " ++ x) (b ∙ ap (λ x. spell.before_name t ++ x) c) ∙ items_pieces (codes "    ") (spell.before_name t) (codes "items[];") (codes "\n") new, fits.items n k t (valid (read.before_name first) t mid (before_name_valid first) got))

pub field_placed : (n k m : ℕ) (t : CType) (old new : List ℕ) → m ≡ k + 1 → old ≡ spell.field_line k t ++ new → of.field_line k old ≡ Some (t, new) → Goes (Fields n k) old (Ok (Fields n m)) new
field_placed n k m t old new count is got =
    (spell.field_line k t, is, subst (λ j. Fits (Fields n k) (spell.field_line k t) (Fields n j)) (sym count) (fits.field n k t (valid (of.field_line k old) t new (field_line_valid k old) got)))

base_pieces : (i s m a l r : List ℕ) → ((i ++ s) ++ m) ++ (a ++ l ++ r) ≡ (i ++ ((s ++ m) ++ a) ++ l) ++ r
base_pieces i s m a l r = simp append_assoc

pub base_placed : (n m : ℕ) (old mid new : List ℕ) → old ≡ (codes "    struct s" ++ decimal m) ++ mid → mid ≡ codes " a0;\n" ++ new → m < 2 ^ 64 → Goes (Fields n 0) old (Ok (Fields n 1)) new
base_placed n m old mid new a b small =
    (spell.base_line (Some m), a ∙ ap (λ x. (codes "    struct s" ++ decimal m) ++ x) b ∙ base_pieces (codes "    ") (codes "struct s") (decimal m) (codes " a0;") (codes "\n") new, fits.base n m small)

pub at_first_field : (n k : ℕ) (old new : List ℕ) (r : Result Place Stop) → k ≡ 0 → Goes (Fields n 0) old r new → Goes (Fields n k) old r new
at_first_field n k old new r e g = subst (λ j. Goes (Fields n j) old r new) (sym e) g

-- ---- within a function

pub head_placed : (n k : ℕ) (p : CPrototype) (old mid new : List ℕ) → k ≡ length p.params → old ≡ spell.head n p.result p.params ++ mid → mid ≡ codes "\n" ++ new → of.head n old ≡ Some (p, mid) → Goes (Named n) old (Ok (Headed n k)) new
head_placed n k p old mid new count a b got =
    let ok = valid (of.head n old) p mid (head_valid n old) got in (
      spell.line (spell.head n p.result p.params),
      a ∙ ap (λ x. spell.head n p.result p.params ++ x) b ∙ sym (append_assoc (spell.head n p.result p.params) (codes "\n") new),
      subst (λ j. Fits (Named n) (spell.line (spell.head n p.result p.params)) (Headed n j)) (sym count) (fits.head n p.result p.params ok.0 ok.1),
    )

pub block_spelled : (b : ℕ) (old mid new : List ℕ) → old ≡ (codes "b" ++ decimal b) ++ mid → mid ≡ codes ":\n" ++ new → old ≡ fits.block_line b ++ new
block_spelled b old mid new a c = a ∙ ap (λ x. (codes "b" ++ decimal b) ++ x) c ∙ four (codes "b") (decimal b) (codes ":") (codes "\n") new

abbrev IfBlock : ℕ → ℕ → List ℕ → Result Place Stop → List ℕ → Type 0
IfBlock n b old r new = IfOk r (λ q. (q ≡ Statements n b) × (old ≡ fits.block_line b ++ new))

pub first_block_placed : (n k : ℕ) (old new : List ℕ) (r : Result Place Stop) → IfBlock n 0 old r new → Goes (Locals n k) old r new
first_block_placed n k old new (Ok q) h = (fits.block_line 0, h.1, subst (λ p. Fits (Locals n k) (fits.block_line 0) p) (sym h.0) (fits.first_block n k))
first_block_placed n k old new (Err e) h = tt

pub block_placed : (n b : ℕ) (old new : List ℕ) (r : Result Place Stop) → IfBlock n b old r new → Goes (Blocks n b) old r new
block_placed n b old new (Ok q) h = (fits.block_line b, h.1, subst (λ p. Fits (Blocks n b) (fits.block_line b) p) (sym h.0) (fits.block n b))
block_placed n b old new (Err e) h = tt

abbrev IfClosed : ℕ → List ℕ → Result Place Stop → List ℕ → Type 0
IfClosed n old r new = IfOk r (λ q. (q ≡ Functions (n + 1)) × (old ≡ codes "}\n" ++ new))

pub function_ended : (n b : ℕ) (old new : List ℕ) (r : Result Place Stop) → IfClosed n old r new → Goes (Blocks n b) old r new
function_ended n b old new (Ok q) h = (codes "}\n", h.1, subst (λ p. Fits (Blocks n b) (codes "}\n") p) (sym h.0) (fits.function_end n b))
function_ended n b old new (Err e) h = tt

pub local_placed : (n k m : ℕ) (t : CType) (old new : List ℕ) → m ≡ k + 1 → old ≡ spell.local_line k t ++ new → of.local_line k old ≡ Some (t, new) → Goes (Locals n k) old (Ok (Locals n m)) new
local_placed n k m t old new count is got =
    (spell.local_line k t, is, subst (λ j. Fits (Locals n k) (spell.local_line k t) (Locals n j)) (sym count) (fits.local n k t (valid (of.local_line k old) t new (local_line_valid k old) got)))

abbrev IfGiven : Place → Result Place Stop → Type 0
IfGiven p (Ok q) = q ≡ p
IfGiven p (Err e) = Unit {0}

given_as : (n b : ℕ) (s : CStmt) (ends : Bool) (r : Result Place Stop) → ends ≡ ends_block s → IfGiven (cond ends (Blocks n (b + 1)) (Statements n b)) r → IfGiven (cond (ends_block s) (Blocks n (b + 1)) (Statements n b)) r
given_as n b s ends r e g = subst (λ d. IfGiven (cond d (Blocks n (b + 1)) (Statements n b)) r) e g

pub given_by : (n b : ℕ) (s : CStmt) (ends : Bool) (r : Result Place Stop) → ends ≡ ends_block s → To.Gives (cond ends (Blocks n (b + 1)) (Statements n b)) r → IfGiven (cond (ends_block s) (Blocks n (b + 1)) (Statements n b)) r
given_by n b s ends (Ok q) e g = given_as n b s ends (Ok q) e g
given_by n b s ends (Err fault) e g = tt

statement_fits : (n b : ℕ) (s : CStmt) (d : Bool) → ends_block s ≡ d → (ok : IsStatement s) → Fits (Statements n b) (spell.statement_line s) (cond d (Blocks n (b + 1)) (Statements n b))
statement_fits n b s true e ok = fits.last n b s ok e
statement_fits n b s false e ok = fits.statement n b s ok e

pub statement_placed : (n b : ℕ) (s : CStmt) (old new : List ℕ) (r : Result Place Stop) → IfGiven (cond (ends_block s) (Blocks n (b + 1)) (Statements n b)) r → old ≡ spell.statement_line s ++ new → of.statement_line old ≡ Some (s, new)
    → Goes (Statements n b) old r new
statement_placed n b s old new (Ok q) h is got =
    (spell.statement_line s, is, subst (λ p. Fits (Statements n b) (spell.statement_line s) p) (sym h) (statement_fits n b s (ends_block s) refl (valid (of.statement_line old) s new (statement_line_valid old) got)))
statement_placed n b s old new (Err e) h is got = tt

abbrev IfFixed : List ℕ → Place → List ℕ → Result Place Stop → List ℕ → Type 0
IfFixed l p old r new = IfOk r (λ q. (q ≡ p) × (old ≡ l ++ new))

pub fixed_placed : (p q : Place) (l old new : List ℕ) (r : Result Place Stop) → Fits p l q → IfFixed l q old r new → Goes p old r new
fixed_placed p q l old new (Ok t) f h = (l, h.1, subst (λ x. Fits p l x) (sym h.0) f)
fixed_placed p q l old new (Err e) f h = tt

pub start_placed : (p : Place) (old new : List ℕ) (r : Result Place Stop) → p ≡ Start → IfFixed (codes "/* C-sub 1 */\n") Include old r new → Goes p old r new
start_placed p old new r e h = subst (λ x. Goes x old r new) (sym e) (fixed_placed Start Include (codes "/* C-sub 1 */\n") old new r fits.start h)

pub include_placed : (p : Place) (old new : List ℕ) (r : Result Place Stop) → p ≡ Include → IfFixed (codes "#include \"rpy_prim.h\"\n") (Structs 0) old r new → Goes p old r new
include_placed p old new r e h = subst (λ x. Goes x old r new) (sym e) (fixed_placed Include (Structs 0) (codes "#include \"rpy_prim.h\"\n") old new r fits.include h)

pub brace_placed : (p : Place) (n k : ℕ) (old new : List ℕ) (r : Result Place Stop) → p ≡ Headed n k → IfFixed (codes "{\n") (Locals n k) old r new → Goes p old r new
brace_placed p n k old new r e h = subst (λ x. Goes x old r new) (sym e) (fixed_placed (Headed n k) (Locals n k) (codes "{\n") old new r (fits.brace n k) h)

pub items_end_placed : (p : Place) (n : ℕ) (old new : List ℕ) (r : Result Place Stop) → p ≡ Items n → IfEnds n old r new → Goes p old r new
items_end_placed p n old new r e h = subst (λ x. Goes x old r new) (sym e) (items_ended n old new r h)

-- ---- a whole line

pub follows : (p q : Place) (l new : List ℕ) → Goes p l (Ok q) new → new ≡ [] → Fits p l q
follows p q l new g e =
    let same : l ≡ g.0 = g.1 ∙ ap (λ t. g.0 ++ t) e ∙ append-nil g.0 in
    subst (λ t. Fits p t q) (sym same) g.2

pub none_follows : (p : Place) (l : List ℕ) → read_line p l ≡ None → (q : Place) → Fits p l q → ⊥
none_follows p l e q f = let t : false ≡ true = ap is_some (sym e ∙ line_read p l q f) in cc

abbrev rest_in : List ℕ → Got Place → List ℕ
rest_in i None = i
rest_in i (Some x) = x.1

pub more_follows : (p r : Place) (l new : List ℕ) → read_line p l ≡ Some (r, new) → not (of.sees_more new) ≡ false → (q : Place) → Fits p l q → ⊥
more_follows p r l new e more q f =
    let t : new ≡ [] = ap (rest_in l) (sym e ∙ line_read p l q f) in
    let u : not (of.sees_more []) ≡ false = ap (λ i. not (of.sees_more i)) (sym t) ∙ more in
    cc

refused : (p : Place) (l new : List ℕ) (fault : Stop) → Reads (read_line p l) (Err fault) new → Follows p l (Err fault)
refused p l new NoText h = none_follows p l h
refused p l new NoMem h = tt

pub refuses : (p : Place) (l cursor new : List ℕ) (fault : Stop) → cursor ≡ l → Reads (read_line p cursor) (Err fault) new → Follows p l (Err fault)
refuses p l cursor new fault e h = refused p l new fault (subst (λ i. Reads (read_line p i) (Err fault) new) e h)
