-- What `print` writes is what its operands print.
use Rattle.std.proofs.Common.{◌≡◌, ◌<◌, ◌≤◌, ℕ, ◌+◌, Bool, true, false, List, [], ◌∷◌, ◌++◌, length, Option, Some, None, pos, refl, sym, ap, ◌∙◌, subst, arith, append_assoc, length-append}
use Rattle.std.specs.Prelude.{slice_set, ◌&&◌, ◌||◌, if◌then◌else◌}
use Rattle.std.proofs.lemmas.List.{append-nil, get_or-set_same, get_or-set_other, length-set}
use Rattle.csub_tree.specs.State.{Value, Unset, Word, Flag, Core}
use Rattle.csub_tree.specs.Operation.{unary_of, is_unset}
use Rattle.csub_tree.specs.Statement.{read, operand}
use Rattle.csub_tree.specs.declared.tree.COperand.TheVariants.{Var}
use Rattle.csub_tree.specs.declared.tree.CUnary.TheVariants as unary
use Rattle.rpy_tree.specs.Value.{Value as Meant, Flag as MeantFlag}
use Rattle.rpy_tree.specs.Meaning.{printed, print_line, spaced, ended}
use Rattle.rpy_meaning.specs.declared.row.RowOp.TheVariants as row
use Rattle.rpy_meaning.specs.Operations.{op as meant_op, write_if_any}
use Rattle.rpy_meaning.specs.World.{World}
use Rattle.ll_code.specs.State.{Frame, State, Calling, At}
use Rattle.ll_code.specs.declared.program.LlType.{LlType}
use Rattle.ll_code.specs.declared.program.LlType.TheVariants as type
use Rattle.ll_code.specs.declared.program.LlOp.{LlOp}
use Rattle.ll_code.specs.declared.program.LlOp.TheVariants as op
use Rattle.ll_code.specs.declared.program.LlExit.{LlExit}
use Rattle.ll_code.specs.declared.program.LlProgram.{LlProgram}
use Rattle.ll_leads.specs.Memory.{forgotten}
use Rattle.ll_leads.specs.Path.{Leads}
use Rattle.ll_leads.proofs.Joined.{leads_more}
use Rattle.ll_leads.proofs.Ways.{Comes, on, then, behind, rests, call, turns}
use Rattle.ll_build.specs.declared.needs.Helper.{Helper}
use Rattle.ll_build.specs.declared.needs.Helper.TheVariants as helper
use Rattle.ll_build.specs.declared.needs.Numbers.{Numbers}
use Rattle.ll_texts.specs.Stands.{Stands, text, missing}
use Rattle.ll_strings.specs.Laws.{HasHelper}
use Rattle.ll_strings.proofs.Putting.{puts}
use Rattle.ll_texts.proofs.Reading.{is_set}
use Rattle.rtyper_layout.specs.declared.kind.Kind.{Kind}
use Rattle.rtyper_layout.specs.declared.kind.Kind.TheVariants as kind
use Rattle.rtyper_data.specs.Converting.{default_operand, nothing_to}
use Rattle.rtyper_data.specs.Finding.{helper_number}
use Rattle.rtyper_op.specs.Lowering.{lower_op, never_comes, is_never}
use Rattle.rtyper_data.specs.Numbers.{word as word_operand}
use Rattle.rtyper_op.specs.Placing.{says_nothing}
use Rattle.rtyper_data.specs.Seen.{Around, Operand, kind_of, type_at, with_op, Writing, writing, push}
use Rattle.rtyper_op.specs.Texts.{put, put_by, put_more, put_all, print, printed_by}
use Rattle.lower_laws.specs.Asked.{Ask, Help, all_asked, HasAll}
use Rattle.lower_laws.specs.Done.{Follows}
use Rattle.lower_laws.specs.Printed.{is_shown, are_shown, printer, printers, IsPrinted}
use Rattle.lower_laws.specs.Values.{Holds, Given, AllBelow, Alone}
use Rattle.lower_laws.proofs.Kept.{has_kept, given_kept, all_more, asked_append, has_first, has_second}
use Rattle.lower_laws.proofs.Shown.{text_put, flag_put, word_put, shown_flag}
use Rattle.lower_laws.proofs.Single.{sets}
use Rattle.lower_laws.proofs.Doing.{after}
use Rattle.lower_laws.proofs.Typing.{place_of_none}
use Rattle.lower_laws.proofs.Valued.{word_held, flag_held, byte_held, string_held}

-- ---- texts

some_is : {A : Type 0} {a b : A} → Some a ≡ Some b → a ≡ b
some_is h = cc

abbrev joined : Option (List ℕ) → Option (List ℕ) → Option (List ℕ)
joined (Some a) (Some b) = Some (a ++ b)
joined a b = None

record Parted (a b : Option (List ℕ)) (t : List ℕ) : Type 0 where
  first : List ℕ
  second : List ℕ
  first_is : a ≡ Some first
  second_is : b ≡ Some second
  whole : first ++ second ≡ t

parted : (a b : Option (List ℕ)) (t : List ℕ) → joined a b ≡ Some t → Parted a b t
parted (Some s) (Some r) t h = record { first = s; second = r; first_is = refl; second_is = refl; whole = some_is h }
parted (Some s) None t h = absurd (cc)
parted None b t h = absurd (cc)

-- each behind a space
abbrev more_text : List Meant → Option (List ℕ)
more_text [] = Some []
more_text (v ∷ vs) = joined (Some (32 ∷ [])) (joined (printed v) (more_text vs))

-- the first alone, and then the others
abbrev after_one : (List Meant → Option (List ℕ)) → List Meant → Option (List ℕ)
after_one g [] = Some []
after_one g (v ∷ vs) = joined (printed v) (g vs)

abbrev all_text : List Meant → Option (List ℕ)
all_text = after_one more_text

abbrev newline : Option (List ℕ)
newline = Some (10 ∷ [])

last_line : (a : Option (List ℕ)) → ended a ≡ joined (joined a (Some [])) newline
last_line None = refl
last_line (Some t) = ap (λ s. Some (s ++ 10 ∷ [])) (sym (append-nil t))

next_line : (a b : Option (List ℕ)) → spaced a (joined b newline) ≡ joined (joined a (joined (Some (32 ∷ [])) b)) newline
next_line None b = refl
next_line (Some t) None = refl
next_line (Some t) (Some s) = ap Some (append_assoc t (32 ∷ []) (s ++ 10 ∷ []) ∙ sym (append_assoc t (32 ∷ s) (10 ∷ [])))

line_is : (vs : List Meant) → print_line vs ≡ joined (all_text vs) newline
line_is [] = refl
line_is (v ∷ []) = last_line (printed v)
line_is (v ∷ u ∷ vs) = ap (spaced (printed v)) (line_is (u ∷ vs)) ∙ next_line (printed v) (all_text (u ∷ vs))

-- ---- what is put

-- A text is put, and nothing is changed but variables behind the first so many.
record Putting (p : LlProgram) (args : List (List ℕ)) (s : State) (rest : List LlOp) (e : LlExit) (frames : List Frame) (core : Core) (below : ℕ) (t : List ℕ) : Type 0 where
  end : Core
  leads : Leads p args 0 s t (At rest e frames end)
  memory : forgotten end ≡ forgotten core
  others : (n : ℕ) → n < below → read end.vars n ≡ read core.vars n
  room : length end.vars ≡ length core.vars
  function : end.function ≡ core.function
  block : end.block ≡ core.block

-- from the one writing to the other: operands are given, and their text is put
record Tells (around : Around) (text_of : List Meant → Option (List ℕ)) (asks : List Ask) (args : List Operand) (w w' : Writing) : Type 0 where
  ops : List LlOp
  new : List LlType
  asked : w'.found ≡ all_asked asks w.found
  written : w'.body.ops ≡ w.body.ops ++ ops
  types : w'.body.types ≡ w.body.types ++ new
  puts : (p : LlProgram) (numbers : Numbers) (raised : ℕ → Value) (arguments : List (List ℕ)) (rest : List LlOp) (e : LlExit) (frames : List Frame) (core : Core) (vs : List Meant) (t : List ℕ)
      → HasAll p around.layout numbers raised core asks w.found → length w.body.types + length new ≤ length core.vars → AllBelow (length w.body.types) args → Given around core args vs → text_of vs ≡ Some t
      → Putting p arguments (At (ops ++ rest) e frames core) rest e frames core (length w.body.types) t

-- ---- one operand

abbrev one_text : List Meant → Option (List ℕ)
one_text (v ∷ []) = printed v
one_text vs = None

-- a helper puts it
abbrev HelperPuts : Around → Operand → Helper → Type 0
HelperPuts around a h = (p : LlProgram) (numbers : Numbers) (arguments : List (List ℕ)) (f : ℕ) (core : Core) (v : Meant) (t : List ℕ) → HasHelper p numbers h f core → Holds around.layout core.blocks core.statics a.element (operand core.vars a.x) v → printed v ≡ Some t
    → (is_unset (operand core.vars a.x) ≡ false) × ((waits : List Frame) → Comes p arguments (Calling f (operand core.vars a.x ∷ []) waits core) t Unset waits core)

by_helper : (around : Around) (h : Helper) (a : Operand) (w : Writing) → put a w ≡ printed_by h a.x w → HelperPuts around a h → Tells around one_text (Help h ∷ []) (a ∷ []) w (put a w)
by_helper around h a w l does = record {
  ops = op.Call None (helper_number h w.found).0 (a.x ∷ []) ∷ [];
  new = [];
  asked = ap (λ (r : Writing). r.found) l;
  written = ap (λ (r : Writing). r.body.ops) l;
  types = ap (λ (r : Writing). r.body.types) l ∙ sym (append-nil w.body.types);
  puts = putting;
}
  where
    putting : (p : LlProgram) (numbers : Numbers) (raised : ℕ → Value) (arguments : List (List ℕ)) (rest : List LlOp) (e : LlExit) (frames : List Frame) (core : Core) (vs : List Meant) (t : List ℕ)
        → HasAll p around.layout numbers raised core (Help h ∷ []) w.found → length w.body.types + 0 ≤ length core.vars → AllBelow (length w.body.types) (a ∷ []) → Given around core (a ∷ []) vs → one_text vs ≡ Some t
        → Putting p arguments (At (op.Call None (helper_number h w.found).0 (a.x ∷ []) ∷ rest) e frames core) rest e frames core (length w.body.types) t
    putting p numbers raised arguments rest e frames core [] t has room below given q = absurd given
    putting p numbers raised arguments rest e frames core (v ∷ u ∷ vs) t has room below given q = absurd given.1
    putting p numbers raised arguments rest e frames core (v ∷ []) t has room below given q =
        let d = does p numbers arguments (helper_number h w.found).0 core v t has.0 given.0 q in
        record {
          end = record core { function = core.function; block = core.block; at = core.at + 1; vars = core.vars };
          leads = call (ap (λ b. b || false) d.0) d.1;
          memory = refl;
          others = λ n under. refl;
          room = refl;
          function = refl;
          block = refl;
        }

word_put_by : (around : Around) (a : Operand) → kind_of a ≡ kind.Word → HelperPuts around a helper.PrintWord
word_put_by around a h p numbers arguments f core v t has held q =
    let x = word_held h held in
    let e = some_is (sym (ap printed x.high) ∙ q) in
    (ap is_unset x.low, λ waits. subst (λ y. Comes p arguments (Calling f (y ∷ []) waits core) t Unset waits core) (sym x.low) (subst (λ s. Comes p arguments (Calling f (Word x.number ∷ []) waits core) s Unset waits core) e (word_put has x.number x.fits waits)))

printed_flag : (b : Bool) → printed (MeantFlag b) ≡ Some (shown_flag b)
printed_flag true = refl
printed_flag false = refl

flag_put_by : (around : Around) (a : Operand) → kind_of a ≡ kind.Flag → HelperPuts around a helper.PrintBool
flag_put_by around a h p numbers arguments f core v t has held q =
    let x = flag_held h held in
    let e = some_is (sym (ap printed x.high ∙ printed_flag x.truth) ∙ q) in
    (ap is_unset x.low, λ waits. subst (λ y. Comes p arguments (Calling f (y ∷ []) waits core) t Unset waits core) (sym x.low) (subst (λ s. Comes p arguments (Calling f (Flag x.truth ∷ []) waits core) s Unset waits core) e (flag_put has x.truth waits)))

text_put_by : (around : Around) (a : Operand) → kind_of a ≡ kind.Text → HelperPuts around a helper.PrintStr
text_put_by around a h p numbers arguments f core v t has held q = one (operand core.vars a.x) v (string_held h held) q
  where
    one : (x : Value) (v : Meant) → Stands core.blocks core.statics (type.Ptr 0) x v → printed v ≡ Some t → (is_unset x ≡ false) × ((waits : List Frame) → Comes p arguments (Calling f (x ∷ []) waits core) t Unset waits core)
    one x v (text y bytes s) q = (is_set s, λ waits. subst (λ r. Comes p arguments (Calling f (x ∷ []) waits core) r Unset waits core) (some_is q) (text_put has x bytes s waits))
    one x v missing q = absurd (cc)

-- the machine puts a byte
byte_puts : (around : Around) (a : Operand) (w : Writing) → kind_of a ≡ kind.Byte → Tells around one_text [] (a ∷ []) w (put a w)
unfolding put
byte_puts around a w h = record {
  ops = op.Unary (length w.body.types) unary.C2S a.x ∷ op.Put (Var (length w.body.types)) ∷ [];
  new = type.Signed ∷ [];
  asked = ap (λ (r : Writing). r.found) l;
  written = ap (λ (r : Writing). r.body.ops) l ∙ append_assoc w.body.ops (op.Unary (length w.body.types) unary.C2S a.x ∷ []) (op.Put (Var (length w.body.types)) ∷ []);
  types = ap (λ (r : Writing). r.body.types) l;
  puts = putting;
}
  where
    l : put a w ≡ put_by kind.Byte a.x w
    l = ap (λ k. put_by k a.x w) h

    putting : (p : LlProgram) (numbers : Numbers) (raised : ℕ → Value) (arguments : List (List ℕ)) (rest : List LlOp) (e : LlExit) (frames : List Frame) (core : Core) (vs : List Meant) (t : List ℕ)
        → HasAll p around.layout numbers raised core [] w.found → length w.body.types + 1 ≤ length core.vars → AllBelow (length w.body.types) (a ∷ []) → Given around core (a ∷ []) vs → one_text vs ≡ Some t
        → Putting p arguments (At (op.Unary (length w.body.types) unary.C2S a.x ∷ op.Put (Var (length w.body.types)) ∷ rest) e frames core) rest e frames core (length w.body.types) t
    putting p numbers raised arguments rest e frames core [] t has room below given q = absurd given
    putting p numbers raised arguments rest e frames core (v ∷ u ∷ vs) t has room below given q = absurd given.1
    putting p numbers raised arguments rest e frames core (v ∷ []) t has room below given q =
        let x = byte_held h given.0 in
        let n : ℕ = length w.body.types in
        let z : Value = Word (pos x.number) in
        let there : n < length core.vars = omega (arith, room) in
        let one : t ≡ x.number ∷ [] = sym (some_is (sym (ap printed x.high) ∙ q)) in
        record {
          end = record core { at = core.at + 1 + 1; vars = slice_set core.vars n z };
          leads = subst (λ s. Leads p arguments 0 (At (op.Unary n unary.C2S a.x ∷ op.Put (Var n) ∷ rest) e frames core) s (At rest e frames (record core { at = core.at + 1 + 1; vars = slice_set core.vars n z }))) (sym one)
              (on (turns z (ap (unary_of unary.C2S) x.low)) (puts x.number (get_or-set_same core.vars n z Unset there) x.small));
          memory = refl;
          others = λ m under. get_or-set_other core.vars n m z _ (λ same. absurd (omega (arith, under, same)));
          room = length-set core.vars n z;
          function = refl;
          block = refl;
        }

one_puts : (around : Around) (a : Operand) (w : Writing) (k : Kind) → kind_of a ≡ k → is_shown k ≡ true → Tells around one_text (printer k) (a ∷ []) w (put a w)
unfolding put
one_puts around a w kind.Word h s = by_helper around helper.PrintWord a w (ap (λ k. put_by k a.x w) h) (word_put_by around a h)
one_puts around a w kind.Flag h s = by_helper around helper.PrintBool a w (ap (λ k. put_by k a.x w) h) (flag_put_by around a h)
one_puts around a w kind.Text h s = by_helper around helper.PrintStr a w (ap (λ k. put_by k a.x w) h) (text_put_by around a h)
one_puts around a w kind.Byte h s = byte_puts around a w h
one_puts around a w _ h s = absurd (cc)

-- ---- one behind another

shown_first : (b c : Bool) → (b && c) ≡ true → b ≡ true
shown_first true c h = refl
shown_first false c h = absurd (cc)

shown_second : (b c : Bool) → (b && c) ≡ true → c ≡ true
shown_second true c h = h
shown_second false c h = absurd (cc)

-- the first of the operands, and the others
module _ {around : Around} {g : List Meant → Option (List ℕ)} {xs ys : List Ask} {a : Operand} {args : List Operand} {w v w' : Writing} (f : Tells around one_text xs (a ∷ []) w v) (s : Tells around g ys args v w') where
  both_put : (p : LlProgram) (numbers : Numbers) (raised : ℕ → Value) (arguments : List (List ℕ)) (rest : List LlOp) (e : LlExit) (frames : List Frame) (core : Core) (vs : List Meant) (t : List ℕ)
      → HasAll p around.layout numbers raised core (xs ++ ys) w.found → length w.body.types + length (f.new ++ s.new) ≤ length core.vars → AllBelow (length w.body.types) (a ∷ args) → Given around core (a ∷ args) vs → after_one g vs ≡ Some t
      → Putting p arguments (At (f.ops ++ (s.ops ++ rest)) e frames core) rest e frames core (length w.body.types) t
  both_put p numbers raised arguments rest e frames core [] t has room below given q = absurd given
  both_put p numbers raised arguments rest e frames core (u ∷ us) t has room below given q =
      let parts = parted (printed u) (g us) t q in
      let many : length (f.new ++ s.new) ≡ length f.new + length s.new = length-append f.new s.new in
      let more : length v.body.types ≡ length w.body.types + length f.new = ap length f.types ∙ length-append w.body.types f.new in
      let one = f.puts p numbers raised arguments (s.ops ++ rest) e frames core (u ∷ []) parts.first (has_first p around.layout numbers raised core xs ys w.found has) (omega (arith, room, many)) (below.0, tt) (given.0, tt) parts.first_is in
      let long : length one.end.vars ≡ length core.vars = one.room in
      let left : HasAll p around.layout numbers raised one.end ys v.found = has_kept core one.end one.memory p around.layout numbers raised ys v.found (subst (λ k. HasAll p around.layout numbers raised core ys k) (sym f.asked) (has_second p around.layout numbers raised core xs ys w.found has)) in
      let two = s.puts p numbers raised arguments rest e frames one.end us parts.second left (omega (arith, room, many, more, long)) (all_more (omega (arith, more)) args below.1) (given_kept core one.end one.memory (length w.body.types) one.others around args us below.1 given.1) parts.second_is in
      record {
        end = two.end;
        leads = subst (λ r. Leads p arguments 0 (At (f.ops ++ (s.ops ++ rest)) e frames core) r (At rest e frames two.end)) parts.whole (behind one.leads two.leads);
        memory = two.memory ∙ one.memory;
        others = λ n under. two.others n (omega (arith, under, more)) ∙ one.others n under;
        room = two.room ∙ one.room;
        function = two.function ∙ one.function;
        block = two.block ∙ one.block;
      }

  with_more : Tells around (after_one g) (xs ++ ys) (a ∷ args) w w'
  with_more = record {
    ops = f.ops ++ s.ops;
    new = f.new ++ s.new;
    asked = s.asked ∙ ap (all_asked ys) f.asked ∙ sym (asked_append xs ys w.found);
    written = s.written ∙ ap (λ l. l ++ s.ops) f.written ∙ append_assoc w.body.ops f.ops s.ops;
    types = s.types ∙ ap (λ l. l ++ s.new) f.types ∙ append_assoc w.body.types f.new s.new;
    puts = λ p numbers raised arguments rest e frames core vs t has room below given q.
        subst (λ l. Putting p arguments (At l e frames core) rest e frames core (length w.body.types) t) (sym (append_assoc f.ops s.ops rest)) (both_put p numbers raised arguments rest e frames core vs t has room below given q);
  }

-- a byte that is known, before what else is put
behind_byte : {around : Around} {g : List Meant → Option (List ℕ)} {ys : List Ask} {args : List Operand} {w w' : Writing} (k : ℕ) → k < 256 → Tells around g ys args (push (op.Put (word_operand (pos k))) w) w' → Tells around (λ vs. joined (Some (k ∷ [])) (g vs)) ys args w w'
behind_byte {around = around} {g = g} {ys = ys} {args = args} {w = w} {w' = w'} k small s = record {
  ops = op.Put (word_operand (pos k)) ∷ s.ops;
  new = s.new;
  asked = s.asked;
  written = s.written ∙ append_assoc w.body.ops (op.Put (word_operand (pos k)) ∷ []) s.ops;
  types = s.types;
  puts = putting;
}
  where
    putting : (p : LlProgram) (numbers : Numbers) (raised : ℕ → Value) (arguments : List (List ℕ)) (rest : List LlOp) (e : LlExit) (frames : List Frame) (core : Core) (vs : List Meant) (t : List ℕ)
        → HasAll p around.layout numbers raised core ys w.found → length w.body.types + length s.new ≤ length core.vars → AllBelow (length w.body.types) args → Given around core args vs → joined (Some (k ∷ [])) (g vs) ≡ Some t
        → Putting p arguments (At (op.Put (word_operand (pos k)) ∷ s.ops ++ rest) e frames core) rest e frames core (length w.body.types) t
    putting p numbers raised arguments rest e frames core vs t has room below given q =
        let parts = parted (Some (k ∷ [])) (g vs) t q in
        let first : k ∷ [] ≡ parts.first = some_is parts.first_is in
        let there : Core = record core { at = core.at + 1 } in
        let same : forgotten there ≡ forgotten core = refl in
        let two = s.puts p numbers raised arguments rest e frames there vs parts.second (has_kept core there same p around.layout numbers raised ys w.found has) room below (given_kept core there same (length w.body.types) (λ n under. refl) around args vs below given) parts.second_is in
        record {
          end = two.end;
          leads = subst (λ r. Leads p arguments 0 (At (op.Put (word_operand (pos k)) ∷ s.ops ++ rest) e frames core) r (At rest e frames two.end)) parts.whole
              (behind (subst (λ r. Leads p arguments 0 (At (op.Put (word_operand (pos k)) ∷ s.ops ++ rest) e frames core) r (At (s.ops ++ rest) e frames there)) first (puts k refl small)) two.leads);
          memory = two.memory;
          others = two.others;
          room = two.room;
          function = two.function;
          block = two.block;
        }

nothing_more : (around : Around) (f : List Meant → Option (List ℕ)) (w : Writing) → f [] ≡ Some [] → Tells around f [] [] w w
nothing_more around f w none = record {
  ops = [];
  new = [];
  asked = refl;
  written = sym (append-nil w.body.ops);
  types = sym (append-nil w.body.types);
  puts = putting;
}
  where
    putting : (p : LlProgram) (numbers : Numbers) (raised : ℕ → Value) (arguments : List (List ℕ)) (rest : List LlOp) (e : LlExit) (frames : List Frame) (core : Core) (vs : List Meant) (t : List ℕ)
        → HasAll p around.layout numbers raised core [] w.found → length w.body.types + 0 ≤ length core.vars → AllBelow (length w.body.types) [] → Given around core [] vs → f vs ≡ Some t
        → Putting p arguments (At rest e frames core) rest e frames core (length w.body.types) t
    putting p numbers raised arguments rest e frames core [] t has room below given q = record {
      end = core;
      leads = subst (λ r. Leads p arguments 0 (At rest e frames core) r (At rest e frames core)) (some_is (sym none ∙ q)) rests;
      memory = refl;
      others = λ n under. refl;
      room = refl;
      function = refl;
      block = refl;
    }
    putting p numbers raised arguments rest e frames core (v ∷ vs) t has room below given q = absurd given

-- the text of operands that are there, said otherwise
said_so : {around : Around} {f g : List Meant → Option (List ℕ)} {xs : List Ask} {a : Operand} {args : List Operand} {w w' : Writing} → ((v : Meant) (vs : List Meant) → f (v ∷ vs) ≡ g (v ∷ vs)) → Tells around f xs (a ∷ args) w w' → Tells around g xs (a ∷ args) w w'
said_so {around = around} {f = f} {g = g} {xs = xs} {a = a} {args = args} {w = w} same s = record { ops = s.ops; new = s.new; asked = s.asked; written = s.written; types = s.types; puts = putting }
  where
    putting : (p : LlProgram) (numbers : Numbers) (raised : ℕ → Value) (arguments : List (List ℕ)) (rest : List LlOp) (e : LlExit) (frames : List Frame) (core : Core) (vs : List Meant) (t : List ℕ)
        → HasAll p around.layout numbers raised core xs w.found → length w.body.types + length s.new ≤ length core.vars → AllBelow (length w.body.types) (a ∷ args) → Given around core (a ∷ args) vs → g vs ≡ Some t
        → Putting p arguments (At (s.ops ++ rest) e frames core) rest e frames core (length w.body.types) t
    putting p numbers raised arguments rest e frames core [] t has room below given q = absurd given
    putting p numbers raised arguments rest e frames core (v ∷ vs) t has room below given q = s.puts p numbers raised arguments rest e frames core (v ∷ vs) t has room below given (same v vs ∙ q)

more_puts : (around : Around) (args : List Operand) (w : Writing) → are_shown args ≡ true → Tells around more_text (printers args) args w (put_more args w)
more_puts around [] w h = nothing_more around more_text w refl
more_puts around (a ∷ args) w h = said_so (λ v vs. refl)
    (behind_byte 32 (omega arith) (with_more (one_puts around a (push (op.Put (word_operand (pos 32))) w) (kind_of a) refl (shown_first (is_shown (kind_of a)) (are_shown args) h))
    (more_puts around args (put a (push (op.Put (word_operand (pos 32))) w)) (shown_second (is_shown (kind_of a)) (are_shown args) h))))

all_puts : (around : Around) (args : List Operand) (w : Writing) → are_shown args ≡ true → Tells around all_text (printers args) args w (put_all args w)
all_puts around [] w h = nothing_more around all_text w refl
all_puts around (a ∷ args) w h = with_more (one_puts around a w (kind_of a) refl (shown_first (is_shown (kind_of a)) (are_shown args) h)) (more_puts around args (put a w) (shown_second (is_shown (kind_of a)) (are_shown args) h))

-- ---- the whole line

shown_comes : (k : Kind) → is_shown k ≡ true → never_comes k ≡ false
shown_comes kind.Word h = refl
shown_comes kind.Flag h = refl
shown_comes kind.Byte h = refl
shown_comes kind.Text h = refl
shown_comes _ h = absurd (cc)

all_come : (args : List Operand) → are_shown args ≡ true → is_never args ≡ false
all_come [] h = refl
all_come (a ∷ args) h = ap (λ c. if c then true else is_never args) (shown_comes (kind_of a) (shown_first (is_shown (kind_of a)) (are_shown args) h)) ∙ all_come args (shown_second (is_shown (kind_of a)) (are_shown args) h)

pub print_is_done : IsPrinted
print_is_done around place args w covers shown none = record {
  ops = s.ops ++ line;
  new = s.new;
  asked = ap (λ (r : Writing). r.found) l ∙ s.asked;
  written = ap (λ (r : Writing). r.body.ops) l ∙ ap (λ (os : List LlOp). (os ++ op.Put (word_operand (pos 10)) ∷ []) ++ last ∷ []) s.written ∙ all_written w.body.ops s.ops;
  types = ap (λ (r : Writing). r.body.types) l ∙ s.types;
  follows = λ program p numbers raised arguments rest e frames core world vs structs has left room inside below given good.
      subst (λ ops. Follows around place p arguments (At ops e frames core) rest e frames core raised (length args) (length w.body.types) world (meant_op program covers row.Print vs world)) (sym (append_assoc s.ops line rest))
      (subst (λ t. Follows around place p arguments (At (s.ops ++ (line ++ rest)) e frames core) rest e frames core raised (length args) (length w.body.types) world (write_if_any t world)) (sym (line_is vs))
      (by_text (all_text vs) p numbers raised arguments rest e frames core world vs has left room inside below given refl));
}
  where
    s : Tells around all_text (printers args) args w (put_all args w)
    s = all_puts around args w shown

    last : LlOp
    last = op.Set place.variable (default_operand type.Bool)

    line : List LlOp
    line = op.Put (word_operand (pos 10)) ∷ last ∷ []

    ht : type_at around place ≡ type.Bool
    ht = place_of_none around.layout place.element none

    l : lower_op around row.Print place args w ≡ writing (put_all args w).found (with_op last (print args w).body)
    l = ap (λ c. if c then says_nothing around place w else says_nothing around place (print args w)) (all_come args shown) ∙ ap (λ t. writing (put_all args w).found (nothing_to place t (print args w).body)) ht

    all_written : (xs ys : List LlOp) → ((xs ++ ys) ++ op.Put (word_operand (pos 10)) ∷ []) ++ last ∷ [] ≡ xs ++ (ys ++ line)
    all_written xs ys = append_assoc (xs ++ ys) (op.Put (word_operand (pos 10)) ∷ []) (last ∷ []) ∙ append_assoc xs ys line

    no_blocks : (core : Core) → core.blocks ≡ core.blocks ++ []
    no_blocks core = sym (append-nil core.blocks)

    by_text : (t : Option (List ℕ)) (p : LlProgram) (numbers : Numbers) (raised : ℕ → Value) (arguments : List (List ℕ)) (rest : List LlOp) (e : LlExit) (frames : List Frame) (core : Core) (world : World) (vs : List Meant)
        → HasAll p around.layout numbers raised core (printers args) w.found → world.left ≡ core.steps → length w.body.types + length s.new ≤ length core.vars → place.variable < length w.body.types → AllBelow (length w.body.types) args → Given around core args vs → all_text vs ≡ t
        → Follows around place p arguments (At (s.ops ++ (line ++ rest)) e frames core) rest e frames core raised (length args) (length w.body.types) world (write_if_any (joined t newline) world)
    by_text None p numbers raised arguments rest e frames core world vs has left room inside below given q = tt
    by_text (Some t) p numbers raised arguments rest e frames core world vs has left room inside below given q =
        let one = s.puts p numbers raised arguments (line ++ rest) e frames core vs t has room below given q in
        let there : Core = record one.end { at = one.end.at + 1 } in
        let long : length one.end.vars ≡ length core.vars = one.room in
        let end : Core = after there place.variable (Flag false) in
        let way : Leads p arguments 0 (At (s.ops ++ (line ++ rest)) e frames core) (t ++ 10 ∷ []) (At rest e frames end) = behind one.leads ((then) (puts 10 refl (omega arith)) (sets (Flag false) refl refl)) in
        let kept : forgotten end ≡ forgotten (record core { blocks = core.blocks ++ []; steps = world.left }) = one.memory ∙ ap (λ bs. forgotten (record core { blocks = bs })) (no_blocks core) ∙ ap (λ n. forgotten (record core { blocks = core.blocks ++ []; steps = n })) (sym left) in
        record {
          end = end;
          text = t ++ 10 ∷ [];
          leads = leads_more 0 (length args) (omega arith) way;
          made = [];
          few = omega arith;
          memory = kept;
          holds = Alone none (get_or-set_same one.end.vars place.variable (Flag false) Unset (omega (arith, long, room, inside))) refl;
          others = λ n under other. get_or-set_other one.end.vars place.variable n (Flag false) _ other ∙ one.others n under;
          room = length-set one.end.vars place.variable (Flag false) ∙ one.room;
          function = one.function;
          block = one.block;
          out = refl;
          heap = refl;
        }
