-- What a conversion from one type to another leads to.
use Rattle.std.proofs.Common.{◌≡◌, ◌<◌, ◌≤◌, ℕ, suc, ◌+◌, ◌-◌, true, false, ◌||◌, List, [], ◌∷◌, ◌++◌, length, Some, Ok, refl, sym, ap, ◌∙◌, subst, arith}
use Rattle.std.specs.Prelude.{slice_get, replicate, pos}
use Rattle.std.proofs.lemmas.List.{get_or-set_same}
use Rattle.csub_tree.specs.State.{Value, Unset, Word, Byte, Flag, Null, Static, Core}
use Rattle.csub_tree.specs.Operation.{is_unset, compared}
use Rattle.csub_tree.specs.Statement.{operand}
use Rattle.csub_tree.specs.declared.tree.COperand.{COperand}
use Rattle.csub_tree.specs.declared.tree.COperand.TheVariants.{Var}
use Rattle.ll_code.specs.State.{Frame, State, Calling, At}
use Rattle.ll_code.specs.declared.program.LlType.{LlType}
use Rattle.ll_code.specs.declared.program.LlType.TheVariants as type
use Rattle.ll_code.specs.declared.program.LlOp.{LlOp}
use Rattle.ll_code.specs.declared.program.LlExit.{LlExit}
use Rattle.ll_code.specs.declared.program.LlExit.TheVariants as exit
use Rattle.ll_code.specs.declared.program.LlProgram.{LlProgram}
use Rattle.ll_leads.specs.Path.{Leads}
use Rattle.ll_leads.proofs.Ways.{Comes, on, many, enter, gives}
use Rattle.ll_build.specs.declared.needs.Helper.TheVariants as helper
use Rattle.ll_build.specs.declared.needs.Numbers.{Numbers}
use Rattle.ll_strings.specs.Laws.{HasHelper}
use Rattle.ll_strings.proofs.Parts.{gets_single}
use Rattle.rpy_tree.specs.Value.{Heap}
use Rattle.rtyper_layout.specs.declared.layout.Layout.{Layout}
use Rattle.rtyper_layout.specs.Layout.{is_tuple}
use Rattle.rtyper_data.specs.declared.found.Found.{Found}
use Rattle.rtyper_data.specs.Building.{fork}
use Rattle.rtyper_data.specs.Graphs.{asks_null}
use Rattle.rtyper_data.specs.declared.small.Small.TheVariants as small
use Rattle.rtyper_data.specs.Converting.{default_operand}
use Rattle.rtyper_data.specs.Finding.{same_type, helper_number, small_number}
use Rattle.rtyper_data.specs.Seen.{Writing}
use Rattle.lower_laws.specs.Values.{IsBelow}
use Rattle.lower_laws.proofs.Doing.{after}
use Rattle.object_laws.specs.Done.{HasLayout, AllAsked}
use Rattle.object_laws.specs.Ghost.{Ghost}
use Rattle.object_laws.specs.Known.{Known}
use Rattle.object_laws.specs.Represents.{Represents}
use Rattle.object_laws.specs.Values.{IsText}
use Rattle.object_laws.proofs.Passing.{calls_at}
use Rattle.conversion_laws.specs.Asked.{HasTo, asks_for}
use Rattle.conversion_laws.specs.Converted.{Blank, never, word, flag, byte, null, function, text}
use Rattle.conversion_laws.proofs.Moving.{Moved, stays_here, sets_one}
use Rattle.conversion_laws.proofs.Rows.{the_graph, graph_is, new_types, made_at, all_ops}
use Rattle.conversion_laws.proofs.Turning.{Turn, Same, Default, Texts, Casts, ops_of, new_of, operand_of, cast_asked}

pub record Turned (layout : Layout) (known : Known) (p : LlProgram) (arguments : List (List ℕ)) (s : State) (rest : List LlOp) (e : LlExit) (frames : List Frame) (core : Core) (g : Ghost) (heap : Heap) (left below most count : ℕ) (Fine : Ghost → Value → Type 0) (y : COperand) : Type 0 where
  pub end : Core
  pub ghost : Ghost
  pub moved : Moved layout known p arguments s rest e frames core g heap left below most count end ghost
  pub fine : Fine ghost (operand end.vars y)

-- what is such a value before is such one then
abbrev pub Means : (layout : Layout) (known : Known) (k : ℕ) {s t : LlType} → Turn layout s t → ℕ → ℕ → (Ghost → Value → Type 0) → (Ghost → Value → Type 0) → Type 0
Means layout known k {s} {t} tn most count Pre Post =
    (x : COperand) (w : Writing) (p : LlProgram) (numbers : Numbers) (raised : ℕ → Value) (arguments : List (List ℕ)) (rest : List LlOp) (e : LlExit) (frames : List Frame) (core : Core) (g : Ghost) (heap : Heap) (left : ℕ)
    → HasLayout p layout → AllAsked (HasTo p layout numbers raised core k) (asks_for layout s t) w.found → Represents layout known g heap left core.blocks core.statics → left ≡ core.steps
    → length w.body.types + length (new_of tn) ≤ length core.vars → IsBelow (length w.body.types) x → Pre g (operand core.vars x)
    → Turned layout known p arguments (At (ops_of tn x w ++ rest) e frames core) rest e frames core g heap left (length w.body.types) most count Post (operand_of tn x w)

-- ---- the string of a byte, which is there

module _ {p : LlProgram} {numbers : Numbers} {f : ℕ} {core : Core} (h : HasHelper p numbers helper.StrOfChar f core) (b : ℕ) (small : b < 256) where
  pub byte_comes : {args : List (List ℕ)} (waits : List Frame) → Comes p args (Calling f (Byte b ∷ []) waits core) [] (Static (b + 1)) waits core
  byte_comes waits = (let statics = h.statics refl in record {
    end = _;
    same = refl;
    leads = on (enter h.graph refl) (on (many 2 h.graph refl refl) (on (gets_single numbers.table b statics refl refl small) (many 1 h.graph refl refl)));
  })

  pub byte_text : {layout : Layout} {known : Known} {g : Ghost} {heap : Heap} {left : ℕ} → Represents layout known g heap left core.blocks core.statics → IsText g (Static (b + 1)) (b ∷ [])
  byte_text r = (let statics = h.statics refl in record { is = r.settled (Static (b + 1)) _ (statics.singles b small) refl; short = omega arith; small = (small, tt) })

-- a byte, of which there is a string
pub record Lettered (g : Ghost) (x : Value) (Post : Ghost → Value → Type 0) : Type 0 where
  pub number : ℕ
  pub low : x ≡ Byte number
  pub small : number < 256
  pub fine : IsText g (Static (number + 1)) (number ∷ []) → Post g (Static (number + 1))

-- ---- the tuple that is not there

module _ (p : LlProgram) (layout : Layout) (m n : ℕ) (made : Found) (f : ℕ) (core : Core) (of : slice_get p.graphs f ≡ Some (the_graph layout m n made)) where
  abbrev pub other_vars : List Value
  other_vars = replicate (length (new_types layout m n made ++ type.Ptr n ∷ [])) Unset

  -- the graph is entered
  abbrev pub entered_at : ℕ → Value → Value → Core
  entered_at block x y = record core { function = f; block = block; at = 0; vars = x ∷ y ∷ other_vars }

  graph_entered : {args : List (List ℕ)} (x : Value) (waits : List Frame) → Leads p args 0 (Calling f (x ∷ []) waits core) [] (At (asks_null (type.Ptr 0)) (fork 1 1 [] 2 (Var 0 ∷ [])) waits (entered_at 0 x Unset))
  graph_entered {args = args} x waits =
      let k : length (the_graph layout m n made).types - 1 ≡ length (type.Bool ∷ (new_types layout m n made ++ type.Ptr n ∷ [])) = omega arith in
      subst (λ k. Leads p args 0 (Calling f (x ∷ []) waits core) [] (At (asks_null (type.Ptr 0)) (fork 1 1 [] 2 (Var 0 ∷ [])) waits (record core { function = f; block = 0; at = 0; vars = (x ∷ []) ++ replicate k Unset }))) k (enter of refl)

  pub null_comes : {args : List (List ℕ)} (waits : List Frame) → Comes p args (Calling f (Null ∷ []) waits core) [] Null waits core
  null_comes waits = record {
    end = _;
    same = refl;
    leads = on (graph_entered Null waits) (on (gives (Flag true) refl) (many 2 of refl refl));
  }

  -- a tuple that is there goes on
  pub tuple_enters : {args : List (List ℕ)} (x : Value) (waits : List Frame) → is_unset x ≡ false → compared x Null ≡ Ok (Flag false) → Leads p args 0 (Calling f (x ∷ []) waits core) [] (At (all_ops layout m n made) (exit.Return (Some (Var (made_at layout m n made)))) waits (entered_at 2 x (Flag false)))
  tuple_enters x waits u there = on (graph_entered x waits) (on (gives (Flag false) there) (many 1 of refl (ap (λ b. b || false) u)))

module _ {layout : Layout} {known : Known} (k : ℕ) {Pre Post : Ghost → Value → Type 0} where
  pub same_means : (t : LlType) → ((g : Ghost) (x : Value) → Pre g x → Post g x) → Means layout known k (Same {t = t}) 0 0 Pre Post
  same_means t go x w p numbers raised arguments rest e frames core g heap left has asked r steps room below pre = record { end = core; ghost = g; moved = stays_here r; fine = go g (operand core.vars x) pre }

  pub default_means : (s t : LlType) (o : same_type s t ≡ false) (c : _) (a : _) → ((g : Ghost) (x : Value) → Pre g x → Post g (operand [] (default_operand t))) → Means layout known k (Default {s = s} {t = t} o c a) 0 0 Pre Post
  default_means s t o c a go x w p numbers raised arguments rest e frames core g heap left has asked r steps room below pre = record { end = core; ghost = g; moved = stays_here r; fine = go g (operand core.vars x) pre }

  pub text_means : ((g : Ghost) (x : Value) → Pre g x → Lettered g x Post) → Means layout known (suc k) Texts 0 0 Pre Post
  text_means go x w p numbers raised arguments rest e frames core g heap left has asked r steps room below pre =
      let it = go g (operand core.vars x) pre in
      let b : ℕ = it.number in
      let at : ℕ = length w.body.types in
      let f : ℕ = (helper_number helper.StrOfChar w.found).0 in
      let own : HasHelper p numbers helper.StrOfChar f core = asked.0 in
      record {
        end = after core at (Static (b + 1));
        ghost = g;
        moved = sets_one at (Static (b + 1)) (omega arith) r (calls_at (ap (λ y. y ∷ []) it.low) refl (byte_comes own b it.small));
        fine = subst (λ y. Post g y) (sym (get_or-set_same core.vars at (Static (b + 1)) Unset (omega (arith, room)))) (it.fine (byte_text own b it.small r));
      }

  pub null_means : (m n : ℕ) (o : same_type (type.Ptr m) (type.Ptr n) ≡ false) (i : is_tuple layout m ≡ true) (j : is_tuple layout n ≡ true) → ((g : Ghost) (x : Value) → Pre g x → (x ≡ Null) × Post g Null) → Means layout known (suc k) (Casts m n o i j) 0 0 Pre Post
  null_means m n o i j go x w p numbers raised arguments rest e frames core g heap left has asked r steps room below pre =
      let it = go g (operand core.vars x) pre in
      let at : ℕ = length w.body.types in
      let f : ℕ = (small_number (small.Cast m n) w.found).0 in
      let own = (subst (λ asks. AllAsked (HasTo p layout numbers raised core (suc k)) asks w.found) (cast_asked layout m n o i j) asked).0 in
      record {
        end = after core at Null;
        ghost = g;
        moved = sets_one at Null (omega arith) r (calls_at (ap (λ y. y ∷ []) it.0) refl (null_comes p layout m n own.made f core (own.graph ∙ ap Some (graph_is layout m n own.made))));
        fine = subst (λ y. Post g y) (sym (get_or-set_same core.vars at Null Unset (omega (arith, room)))) it.1;
      }

-- ---- what is bound to nothing

same_blank : (g : Ghost) (t : LlType) → Blank g t (operand [] (default_operand t))
same_blank g type.Void = never (Word (pos 0))
same_blank g type.Signed = word (pos 0) (omega arith)
same_blank g type.Bool = flag false
same_blank g type.Char = byte 0 (omega arith)
same_blank g (type.Ptr n) = null n
same_blank g type.Fn = function

blank_byte : (g : Ghost) (t : LlType) (x : Value) → t ≡ type.Char → Blank g t x → Lettered g x (λ g y. Blank g (type.Ptr 0) y)
blank_byte g type.Char x h (byte b s) = record { number = b; low = refl; small = s; fine = λ t. text (Static (b + 1)) (b ∷ []) t }
blank_byte g _ x h blank = absurd (cc)

blank_null : (g : Ghost) (layout : Layout) (t : LlType) (m n : ℕ) (x : Value) → t ≡ type.Ptr m → is_tuple layout m ≡ true → is_tuple layout 0 ≡ false → Blank g t x → (x ≡ Null) × Blank g (type.Ptr n) Null
blank_null g layout (type.Ptr l) m n x h i apart (null k) = (refl, null n)
blank_null g layout (type.Ptr l) m n x h i apart (text y bytes t) = (let q : 0 ≡ m = cc in let c : false ≡ true = sym apart ∙ ap (is_tuple layout) q ∙ i in absurd (cc))
blank_null g layout _ m n x h i apart blank = absurd (cc)

pub blank_means : {layout : Layout} {known : Known} (k : ℕ) {s t : LlType} (tn : Turn layout s t) → is_tuple layout 0 ≡ false → Means layout known (suc k) tn 0 0 (λ g x. Blank g s x) (λ g y. Blank g t y)
blank_means k {s = s} Same apart = same_means (suc k) {Pre = λ g x. Blank g s x} {Post = λ g x. Blank g s x} s (λ g x blank. blank)
blank_means k {s = s} {t = t} (Default o c a) apart = default_means (suc k) {Pre = λ g x. Blank g s x} {Post = λ g x. Blank g t x} s t o c a (λ g x blank. same_blank g t)
blank_means k Texts apart = text_means k {Pre = λ g x. Blank g type.Char x} {Post = λ g x. Blank g (type.Ptr 0) x} (λ g x blank. blank_byte g type.Char x refl blank)
blank_means {layout = layout} k (Casts m n o i j) apart = null_means k {Pre = λ g x. Blank g (type.Ptr m) x} {Post = λ g x. Blank g (type.Ptr n) x} m n o i j (λ g x blank. blank_null g layout (type.Ptr m) m n x refl i apart blank)
