-- What is written for the attributes of a new instance sets each of them.
use Rattle.std.proofs.Common.{◌≡◌, ◌<◌, ℕ, zero, suc, ◌+◌, ◌==◌, ◌||◌, ◌&&◌, ◌⊎◌, inl, inr, Bool, true, false, List, [], ◌∷◌, ◌++◌, length, Option, Some, None, refl, sym, ap, ◌∙◌, subst, arith, append_assoc}
use Rattle.std.specs.Prelude.{slice_set, slice_index_or, cond, if◌then◌else◌}
use Rattle.std.specs.Str.{bytes_eq}
use Rattle.std.specs.List.{list_any}
use Rattle.std.proofs.lemmas.List.{append-nil, get_or-set_same, get_or-set_other, length-set}
use Rattle.std.proofs.lemmas.Bool.Decides.{nat_tests}
use Rattle.std.proofs.lemmas.Slice.Eq.{bytes_eq-Decides}
use Rattle.ann_element.specs.declared.element.Element.{Element}
use Rattle.csub_tree.specs.State.{Value, Unset, Flag, Ptr, Block, Core}
use Rattle.csub_tree.specs.Layout.{shape_at, constant}
use Rattle.csub_tree.specs.Operation.{is_unset}
use Rattle.csub_tree.specs.Statement.{read}
use Rattle.csub_tree.specs.declared.tree.CConst.{CConst}
use Rattle.csub_tree.specs.declared.tree.CConst.TheVariants as fixed
use Rattle.csub_tree.specs.declared.tree.COperand.TheVariants.{Const}
use Rattle.rpy_tree.specs.Value.{Value as Meant}
use Rattle.rpy_meaning.specs.Classes.{named, first_attributes}
use Rattle.class_desc.specs.declared.classes.Initial.{Initial}
use Rattle.class_desc.specs.Line.{base, line, onward as onward_line, above, is_below, higher, topmost}
use Rattle.class_desc.specs.Tables.{home, declares, initial}
use Rattle.ll_code.specs.State.{Frame, At}
use Rattle.ll_code.specs.declared.program.LlType.{LlType}
use Rattle.ll_code.specs.declared.program.LlType.TheVariants as type
use Rattle.ll_code.specs.declared.program.LlOp.{LlOp}
use Rattle.ll_code.specs.declared.program.LlOp.TheVariants as op
use Rattle.ll_code.specs.declared.program.LlExit.{LlExit}
use Rattle.ll_code.specs.declared.program.LlProgram.{LlProgram}
use Rattle.ll_held.specs.Held.{is_reference}
use Rattle.ll_leads.specs.Memory.{forgotten}
use Rattle.ll_leads.specs.Path.{Leads, reference_in}
use Rattle.ll_leads.proofs.Joined.{leads_then, leads_more}
use Rattle.ll_leads.proofs.Ways.{on, rests}
use Rattle.ll_texts.specs.Texts.{found}
use Rattle.ll_texts.proofs.Writing.{newest, put_newest}
use Rattle.rtyper_layout.specs.declared.classes.Laid.{Laid}
use Rattle.rtyper_layout.specs.Families.{place_from, attribute_place}
use Rattle.rtyper_layout.specs.Types.{word, field_type, type_of}
use Rattle.rtyper_data.specs.declared.body.Body.{Body}
use Rattle.rtyper_data.specs.declared.found.Found.{Found}
use Rattle.rtyper_op.specs.Constants.{constant_of}
use Rattle.rtyper_data.specs.Converting.{default_constant}
use Rattle.rtyper_data.specs.Seen.{Writing, writing}
use Rattle.rtyper_class.specs.Attributes.{Standing as Stood, place_in, standing, standing_in, standing_at}
use Rattle.rtyper_class.specs.Instances.{initial_of, start, start_by, start_as, starts, starts_from, starts_within, starts_next, onward}
use Rattle.rtyper_class.specs.Seen.{World, laid}
use Rattle.object_laws.specs.Done.{HasLayout}
use Rattle.object_laws.specs.Ghost.{Ghost}
use Rattle.object_laws.specs.Known.{Known, Standing}
use Rattle.object_laws.specs.Represents.{Shows, shapes, value_field, set_field, value_at, set_at}
use Rattle.object_laws.proofs.Parts.{writes_part}
use Rattle.object_laws.proofs.Writing.{Written}
use Rattle.class_laws.specs.Classes.{IsLaidOut, HasFields}
use Rattle.class_laws.specs.Starting.{AreKnown, StartsAs, Starts, next_place}
use Rattle.class_laws.proofs.Fields.{begins_in, place_in_struct}

-- ---- default values

default_set : (t : LlType) → is_unset (constant (default_constant t)) ≡ false
default_set type.Signed = refl
default_set type.Void = refl
default_set type.Char = refl
default_set type.Bool = refl
default_set type.Fn = refl
default_set (type.Ptr n) = refl

default_alone : (t : LlType) → is_reference (constant (default_constant t)) ≡ false
default_alone type.Signed = refl
default_alone type.Void = refl
default_alone type.Char = refl
default_alone type.Bool = refl
default_alone type.Fn = refl
default_alone (type.Ptr n) = refl

either_true : (a b : Bool) → (a || b) ≡ true → (a ≡ true) ⊎ (b ≡ true)
either_true true b h = inl refl
either_true false b h = inr h

in_either : (a b : Bool) → (a ≡ true) ⊎ (b ≡ true) → (a || b) ≡ true
in_either true b h = refl
in_either false b (inl h) = absurd (cc)
in_either false b (inr h) = h

-- ---- which attributes are listed

named_in : ℕ → List (ℕ × List ℕ × Element) → List ℕ → Bool
named_in home [] name = false
named_in home (a ∷ more) name = ((a.0 == home) && bytes_eq a.1 name) || named_in home more name

named_from : (home n : ℕ) (attributes : List (ℕ × List ℕ × Element)) (name : List ℕ) (r : ℕ × Element) → place_from n attributes home name ≡ Some r → named_in home attributes name ≡ true
unfolding named_in
named_from home n [] name r h = absurd (cc)
named_from home n (a ∷ more) name r h = by (a.0 == home) (bytes_eq a.1 name) (λ k. named_from home k more name r) h
  where
    by : (c d : Bool) → ((k : ℕ) → place_from k more home name ≡ Some r → named_in home more name ≡ true) → (if c then if d then Some (n, a.2) else place_from (n + 1) more home name else place_from n more home name) ≡ Some r → ((c && d) || named_in home more name) ≡ true
    by true true go h = refl
    by true false go h = go (n + 1) h
    by false d go h = go n h

same_number : (m n : ℕ) → (m == n) ≡ true → m ≡ n
same_number m n h = grind (arith, nat_tests, h)

is_number : (m n : ℕ) → m ≡ n → (m == n) ≡ true
is_number m n h = grind (arith, nat_tests, h)

one_of : {m n : ℕ} → Some m ≡ Some n → m ≡ n
one_of h = cc

top_in : (passes : ℕ → Bool) (found : Option ℕ) (cs : List ℕ) (h : ℕ) → topmost passes found cs ≡ Some h → (found ≡ Some h) ⊎ (list_any (λ b. b == h) cs ≡ true)
top_in passes found [] h e = inl e
top_in passes found (c ∷ cs) h e = by (passes c) (top_in passes (higher (passes c) c found) cs h e)
  where
    by : (b : Bool) → (higher b c found ≡ Some h) ⊎ (list_any (λ b. b == h) cs ≡ true) → (found ≡ Some h) ⊎ (((c == h) || list_any (λ b. b == h) cs) ≡ true)
    by true (inl k) = inr (in_either (c == h) (list_any (λ b. b == h) cs) (inl (is_number c h (one_of k))))
    by false (inl k) = inl k
    by b (inr k) = inr (in_either (c == h) (list_any (λ b. b == h) cs) (inr k))

module _ (world : World) where
  abbrev pub next_done : (ℕ → List ℕ → Bool) → Option ℕ → List ℕ → Bool
  next_done further None name = false
  next_done further (Some b) name = further b name

  -- those of a class and its bases
  pub done_within : ℕ → ℕ → List ℕ → Bool
  done_within zero c name = false
  done_within (suc k) c name = named_in c world.attributes name || next_done (done_within k) (base world.classes.classes c) name

  done_any : (k c h : ℕ) (name : List ℕ) → list_any (λ b. b == h) (line world.classes.classes k c) ≡ true → named_in h world.attributes name ≡ true → done_within k c name ≡ true
  unfolding done_within
  done_any zero c h name any is = absurd (cc)
  done_any (suc k) c h name any is =
      in_either (named_in c world.attributes name) (next_done (done_within k) (base world.classes.classes c) name) (first (either_true (c == h) (list_any (λ b. b == h) (onward_line (line world.classes.classes k) (base world.classes.classes c))) any) (base world.classes.classes c) refl (λ b m. done_any k b h name m is))
    where
      first : ((c == h) ≡ true) ⊎ (list_any (λ b. b == h) (onward_line (line world.classes.classes k) (base world.classes.classes c)) ≡ true) → (o : Option ℕ) → base world.classes.classes c ≡ o
          → ((b : ℕ) → list_any (λ b. b == h) (line world.classes.classes k b) ≡ true → done_within k b name ≡ true)
          → (named_in c world.attributes name ≡ true) ⊎ (next_done (done_within k) (base world.classes.classes c) name ≡ true)
      first (inl e) o q go = inl (subst (λ d. named_in d world.attributes name ≡ true) (sym (same_number c h e)) is)
      first (inr m) None q go = (let k : false ≡ true = ap (λ o. list_any (λ b. b == h) (onward_line (line world.classes.classes k) o)) (sym q) ∙ m in absurd (cc))
      first (inr m) (Some b) q go = inr (ap (λ o. next_done (done_within k) o name) q ∙ go b (ap (λ o. list_any (λ b. b == h) (onward_line (line world.classes.classes k) o)) (sym q) ∙ m))

  record Listed (class : ℕ) (name : List ℕ) : Type 0 where
    home_of : ℕ
    among : list_any (λ b. b == home_of) (above world.classes.classes class) ≡ true
    is : named_in home_of world.attributes name ≡ true

  is_listed : (class : ℕ) (name : List ℕ) (s : Stood) → place_in world class name ≡ Some s → Listed class name
  unfolding place_in
  is_listed class name s h = by (home world.classes class name) refl h
    where
      by : (o : Option ℕ) → home world.classes class name ≡ o → standing_at world name o ≡ Some s → Listed class name
      by None e k = absurd (cc)
      by (Some d) e k = by_laid (laid world d) k
        where
          by_laid : (m : Option Laid) → standing_in world d name m ≡ Some s → Listed class name
          by_laid None k = absurd (cc)
          by_laid (Some m) k = by_place (attribute_place world.attributes d name) refl k
            where
              by_place : (r : Option (ℕ × Element)) → attribute_place world.attributes d name ≡ r → standing m.own r ≡ Some s → Listed class name
              by_place None q k = absurd (cc)
              by_place (Some r) q k = record { home_of = d; among = among (top_in (declares world.classes.attributes name) None (above world.classes.classes class) d e); is = named_from d 0 world.attributes name r q }
                where
                  among : (None ≡ Some d) ⊎ (list_any (λ b. b == d) (above world.classes.classes class) ≡ true) → list_any (λ b. b == d) (above world.classes.classes class) ≡ true
                  among (inl q) = absurd (cc)
                  among (inr q) = q

-- ---- the newest block, an instance of the class

same_standing : {s t : Standing} → Some s ≡ Some t → s ≡ t
same_standing h = cc

module _ (world : World) (known : Known) (out : IsLaidOut world known) (class : ℕ) (l : Laid) (laid_as : laid world class ≡ Some l) (begin : Starts world known class) (g : Ghost) where
  abbrev firsts : List (List ℕ × Meant)
  firsts = first_attributes known.program.classes class

  abbrev ShowsIn : List Value → List ℕ → Standing → Type 0
  ShowsIn fields name s = Shows world.around.layout known g s.element (named name firsts) (read fields (value_at world.around.layout s)) (read fields (set_at world.around.layout s))

  -- those that are done show what they start with
  abbrev pub Good : List Value → (List ℕ → Bool) → Type 0
  Good fields done = (name : List ℕ) (s : Standing) → known.attribute class name ≡ Some s → done name ≡ true → ShowsIn fields name s

  abbrev block_of : List Value → Block
  block_of fields = record { kind = l.own; fields = fields; items = [] }

  pub record Ran (p : LlProgram) (args : List (List ℕ)) (ops rest : List LlOp) (e : LlExit) (frames : List Frame) (core : Core) (bs : List (Option Block)) (fields : List Value) (done : List ℕ → Bool) : Type 0 where
    pub end : Core
    pub fields2 : List Value
    pub size : length fields2 ≡ length fields
    pub first : read fields2 0 ≡ read fields 0
    pub good : Good fields2 done
    pub same : forgotten end ≡ forgotten (record core { blocks = bs ++ Some (block_of fields2) ∷ [] })
    pub vars : end.vars ≡ core.vars
    pub function : end.function ≡ core.function
    pub blocks : end.blocks ≡ bs ++ Some (block_of fields2) ∷ []
    pub way : Leads p args 0 (At (ops ++ rest) e frames core) [] (At rest e frames end)

  -- what is written behind what was there does more of them
  pub record Began (w more : Writing) (before done : List ℕ → Bool) : Type 0 where
    pub ops : List LlOp
    pub written : more.body ≡ record { types = w.body.types; ops = w.body.ops ++ ops }
    pub runs : (p : LlProgram) (args : List (List ℕ)) (rest : List LlOp) (e : LlExit) (frames : List Frame) (core : Core) (bs : List (Option Block)) (fields : List Value) → HasLayout p world.around.layout
        → core.blocks ≡ bs ++ Some (block_of fields) ∷ [] → read core.vars 0 ≡ Ptr (length bs) → length fields ≡ (shape_at (shapes world.around.layout) l.own).size → Good fields before → Ran p args ops rest e frames core bs fields done

  -- ---- one after another

  began_none : (w : Writing) (done : List ℕ → Bool) → Began w w done done
  began_none w done = record {
    ops = [];
    written = ap (λ os. record { types = w.body.types; ops = os }) (sym (append-nil w.body.ops));
    runs = λ p args rest e frames core bs fields structs at ptr size good. record { end = core; fields2 = fields; size = refl; first = refl; good = good; same = ap (λ bs. forgotten (record core { blocks = bs })) at; vars = refl; function = refl; blocks = at; way = rests };
  }

  began_less : {w more : Writing} {before done fewer : List ℕ → Bool} → ((k : List ℕ) → fewer k ≡ true → done k ≡ true) → Began w more before done → Began w more before fewer
  began_less less b = record {
    ops = b.ops;
    written = b.written;
    runs = λ p args rest e frames core bs fields structs at ptr size good.
        let r = b.runs p args rest e frames core bs fields structs at ptr size good in
        record { end = r.end; fields2 = r.fields2; size = r.size; first = r.first; good = λ name s h d. r.good name s h (less name d); same = r.same; vars = r.vars; function = r.function; blocks = r.blocks; way = r.way };
  }

  began_both : {w mid more : Writing} {before between done : List ℕ → Bool} → Began w mid before between → Began mid more between done → Began w more before done
  began_both {w = w} a b = record {
    ops = a.ops ++ b.ops;
    written = b.written ∙ ap (λ (body : Body). record { types = body.types; ops = body.ops ++ b.ops }) a.written ∙ ap (λ os. record { types = w.body.types; ops = os }) (append_assoc w.body.ops a.ops b.ops);
    runs = λ p args rest e frames core bs fields structs at ptr size good.
        let r = a.runs p args (b.ops ++ rest) e frames core bs fields structs at ptr size good in
        let q = b.runs p args rest e frames r.end bs r.fields2 structs r.blocks (ap (λ vs. read vs 0) r.vars ∙ ptr) (r.size ∙ size) r.good in
        record {
          end = q.end;
          fields2 = q.fields2;
          size = q.size ∙ r.size;
          first = q.first ∙ r.first;
          good = q.good;
          same = q.same ∙ ap (λ (c : Core). record c { blocks = bs ++ Some (block_of q.fields2) ∷ [] }) r.same;
          vars = q.vars ∙ r.vars;
          function = q.function ∙ r.function;
          blocks = q.blocks;
          way = subst (λ os. Leads p args 0 (At os e frames core) [] (At rest e frames q.end)) (sym (append_assoc a.ops b.ops rest)) (on r.way q.way);
        };
  }

  -- ---- one attribute

  module _ (name : List ℕ) (s : Standing) (is : known.attribute class name ≡ Some s) (c : CConst) (b : Bool) (shows : Shows world.around.layout known g s.element (named name firsts) (constant c) (Flag b))
      (value_set : is_unset (constant c) ≡ false) (alone : is_reference (constant c) ≡ false) where
    abbrev value : Value
    value = constant c

    has : HasFields world.around.layout l s
    has = out.fields class l name s laid_as is

    abbrev va : ℕ
    va = value_at world.around.layout s

    abbrev sa : ℕ
    sa = set_at world.around.layout s

    next : sa ≡ va + 1
    next = has.next

    abbrev sets_value : LlOp
    sets_value = op.SetField s.own 0 (value_field s.place) (Const c)

    abbrev sets_set : LlOp
    sets_set = op.SetField s.own 0 (set_field s.place) (Const (fixed.Bool b))

    abbrev first_of : List Value → List Value
    first_of fields = slice_set fields va value

    abbrev both_of : List Value → List Value
    both_of fields = slice_set (first_of fields) sa (Flag b)

    far : (fields : List Value) (k : ℕ) → (k ≡ va → ⊥) → (k ≡ sa → ⊥) → read (both_of fields) k ≡ read fields k
    far fields k not_value not_set = get_or-set_other (first_of fields) sa k (Flag b) Unset not_set ∙ get_or-set_other fields va k value Unset not_value

    here : (fields : List Value) → sa < length fields → ShowsIn (both_of fields) name s
    here fields inside =
        let long : length (first_of fields) ≡ length fields = length-set fields va value in
        subst (λ x. Shows world.around.layout known g s.element (named name firsts) x (read (both_of fields) sa)) (sym (get_or-set_other (first_of fields) sa va (Flag b) Unset (λ e. omega (arith, next, e)) ∙ get_or-set_same fields va value Unset (omega (arith, next, inside))))
        (subst (λ y. Shows world.around.layout known g s.element (named name firsts) value y) (sym (get_or-set_same (first_of fields) sa (Flag b) Unset (omega (arith, inside, long)))) shows)

    elsewhere : (fields : List Value) (other : List ℕ) (t : Standing) → known.attribute class other ≡ Some t → bytes_eq name other ≡ false → ShowsIn fields other t → ShowsIn (both_of fields) other t
    elsewhere fields other t h differ shown =
        let apart = out.apart class l name other s t laid_as is h (λ q. (let k : false ≡ true = sym differ ∙ (bytes_eq-Decides name other).1 q in absurd (cc))) in
        let n : set_at world.around.layout t ≡ value_at world.around.layout t + 1 = (out.fields class l other t laid_as h).next in
        subst (λ y. Shows world.around.layout known g t.element (named other firsts) (read (both_of fields) (value_at world.around.layout t)) y) (sym (far fields (set_at world.around.layout t) (λ e. off1 apart n e) (λ e. off2 apart n e)))
        (subst (λ x. Shows world.around.layout known g t.element (named other firsts) x (read fields (set_at world.around.layout t))) (sym (far fields (value_at world.around.layout t) (λ e. off3 apart n e) (λ e. off4 apart n e))) shown)
      where
        off1 : (sa < value_at world.around.layout t) ⊎ (set_at world.around.layout t < va) → set_at world.around.layout t ≡ value_at world.around.layout t + 1 → set_at world.around.layout t ≡ va → ⊥
        off1 (inl k) n e = omega (arith, k, n, e, next)
        off1 (inr k) n e = omega (arith, k, e)

        off2 : (sa < value_at world.around.layout t) ⊎ (set_at world.around.layout t < va) → set_at world.around.layout t ≡ value_at world.around.layout t + 1 → set_at world.around.layout t ≡ sa → ⊥
        off2 (inl k) n e = omega (arith, k, n, e)
        off2 (inr k) n e = omega (arith, k, e, next)

        off3 : (sa < value_at world.around.layout t) ⊎ (set_at world.around.layout t < va) → set_at world.around.layout t ≡ value_at world.around.layout t + 1 → value_at world.around.layout t ≡ va → ⊥
        off3 (inl k) n e = omega (arith, k, e, next)
        off3 (inr k) n e = omega (arith, k, n, e)

        off4 : (sa < value_at world.around.layout t) ⊎ (set_at world.around.layout t < va) → set_at world.around.layout t ≡ value_at world.around.layout t + 1 → value_at world.around.layout t ≡ sa → ⊥
        off4 (inl k) n e = omega (arith, k, e)
        off4 (inr k) n e = omega (arith, k, n, e, next)

    good_then : (fields : List Value) (done : List ℕ → Bool) → sa < length fields → Good fields done → Good (both_of fields) (λ k. bytes_eq name k || done k)
    good_then fields done inside good other t h d = by (bytes_eq name other) refl
      where
        by : (c : Bool) → bytes_eq name other ≡ c → ShowsIn (both_of fields) other t
        by true e =
            let q : name ≡ other = (bytes_eq-Decides name other).0 e in
            let same : s ≡ t = same_standing (sym is ∙ ap (known.attribute class) q ∙ h) in
            subst (λ n. ShowsIn (both_of fields) n t) q (subst (ShowsIn (both_of fields) name) same (here fields inside))
        by false e = elsewhere fields other t h e (good other t h (ap (λ c. c || done other) (sym e) ∙ d))

    pub one_began : (w : Writing) (made : Found) (done : List ℕ → Bool) → Began w (start_as s.own s.place (Const c) b (writing made w.body)) done (λ k. bytes_eq name k || done k)
    one_began w made done = record {
      ops = sets_value ∷ sets_set ∷ [];
      written = ap (λ os. record { types = w.body.types; ops = os }) (append_assoc w.body.ops (sets_value ∷ []) (sets_set ∷ []));
      runs = runs;
    }
      where
        runs : (p : LlProgram) (args : List (List ℕ)) (rest : List LlOp) (e : LlExit) (frames : List Frame) (core : Core) (bs : List (Option Block)) (fields : List Value) → HasLayout p world.around.layout
            → core.blocks ≡ bs ++ Some (block_of fields) ∷ [] → read core.vars 0 ≡ Ptr (length bs) → length fields ≡ (shape_at (shapes world.around.layout) l.own).size → Good fields done → Ran p args (sets_value ∷ sets_set ∷ []) rest e frames core bs fields (λ k. bytes_eq name k || done k)
        runs p args rest e frames core bs fields structs at ptr size good =
            let inside : sa < length fields = (let k = has.inside in omega (arith, k, size)) in
            let begins = begins_in p world s.own l.own structs (out.class class l laid_as).1 has.begins in
            let is1 : found core.blocks core.statics (Ptr (length bs)) ≡ Some (block_of fields) = ap (λ l. slice_index_or l (length bs) None) at ∙ newest bs (Some (block_of fields)) None in
            let w1 : Written p args (reference_in value) sets_value (sets_set ∷ rest) e frames core (Ptr (length bs)) (block_of (first_of fields)) =
            writes_part p args (sets_set ∷ rest) e frames core s.own 0 (value_field s.place) va (Const c) (block_of fields) value begins (place_in_struct p world s.own (value_field s.place) structs has.declared) refl value_set (Ptr (length bs)) ptr is1 in
            let w2 : Written p args 0 sets_set rest e frames w1.end (Ptr (length bs)) (block_of (both_of fields)) =
            writes_part p args rest e frames w1.end s.own 0 (set_field s.place) sa (Const (fixed.Bool b)) (block_of (first_of fields)) (Flag b) begins (place_in_struct p world s.own (set_field s.place) structs has.declared) refl refl (Ptr (length bs)) (ap (λ vs. read vs 0) w1.vars ∙ ptr) w1.wrote.there in
            let none : reference_in value ≡ 0 = ap (λ b. cond b 1 0) alone in
            let blocks1 : w1.end.blocks ≡ bs ++ Some (block_of (first_of fields)) ∷ [] = w1.blocks ∙ ap (λ l. slice_set l (length bs) (Some (block_of (first_of fields)))) at ∙ put_newest bs (Some (block_of fields)) (Some (block_of (first_of fields))) in
            let blocks2 : w2.end.blocks ≡ bs ++ Some (block_of (both_of fields)) ∷ [] = w2.blocks ∙ ap (λ l. slice_set l (length bs) (Some (block_of (both_of fields)))) blocks1 ∙ put_newest bs (Some (block_of (first_of fields))) (Some (block_of (both_of fields))) in
            record {
              end = w2.end;
              fields2 = both_of fields;
              size = length-set (first_of fields) sa (Flag b) ∙ length-set fields va value;
              first = (let f = has.first in far fields 0 (λ e. omega (arith, f, e)) (λ e. omega (arith, f, next, e)));
              good = good_then fields done inside good;
              same = w2.memory ∙ ap (λ (c : Core). record c { blocks = w2.end.blocks; statics = w2.end.statics }) w1.memory
                  ∙ ap (λ bs. forgotten (record core { blocks = bs; statics = w2.end.statics })) blocks2
                  ∙ ap (λ ss. forgotten (record core { blocks = bs ++ Some (block_of (both_of fields)) ∷ []; statics = ss })) (w2.statics ∙ w1.statics);
              vars = w2.vars ∙ w1.vars;
              function = w2.function ∙ w1.function;
              blocks = blocks2;
              way = leads_more (reference_in value + 0) 0 (omega (arith, none)) (leads_then w1.way w2.way);
            }

  by_start : (name : List ℕ) (s : Standing) → known.attribute class name ≡ Some s → (o : Option Initial) (u : Option Meant) → named name firsts ≡ u → StartsAs world known s.element u o → (w : Writing) (done : List ℕ → Bool)
      → Began w (start_by world s.own s.place (field_type (type_of world.around.layout s.element)) o w) done (λ k. bytes_eq name k || done k)
  by_start name s is None None e starts w done =
      let t : LlType = field_type (type_of world.around.layout s.element) in
      one_began name s is (default_constant t) false (subst (λ u. Shows world.around.layout known g s.element u (constant (default_constant t)) (Flag false)) (sym e) (refl, default_set t, default_alone t)) (default_set t) (default_alone t) w w.found done
  by_start name s is (Some i) (Some v) e starts w done =
      let made : CConst × Found = constant_of world.around i.value (field_type (type_of world.around.layout s.element)) w.found in
      let k = starts w.found in
      one_began name s is made.0 true (subst (λ u. Shows world.around.layout known g s.element u (constant made.0) (Flag true)) (sym e) (refl, k.holds g)) k.fixed k.alone w made.1 done
  by_start name s is None (Some v) e starts w done = absurd starts
  by_start name s is (Some i) None e starts w done = absurd starts

  -- ---- those of one class

  abbrev initials : List Initial
  initials = initial world.classes class

  from_class : (h : ℕ) (m : Laid) → is_below world.classes.classes class h ≡ true → laid world h ≡ Some m → (n : ℕ) (attributes : List (ℕ × List ℕ × Element)) (w : Writing) (done : List ℕ → Bool) → AreKnown known class h m.own n attributes
      → Began w (starts_from world h m.own initials n attributes w) done (λ k. named_in h attributes k || done k)
  unfolding named_in start
  from_class h m below hm n [] w done listed = began_none w done
  from_class h m below hm n (a ∷ more) w done listed = by (a.0 == h) refl (λ n2 w2 done2 k. from_class h m below hm n2 more w2 done2 k)
    where
      by : (c : Bool) → (a.0 == h) ≡ c → ((n2 : ℕ) (w2 : Writing) (done2 : List ℕ → Bool) → AreKnown known class h m.own n2 more → Began w2 (starts_from world h m.own initials n2 more w2) done2 (λ k. named_in h more k || done2 k))
          → Began w (if c then starts_from world h m.own initials (word (n + 1)) more (start world m.own n a.2 (initial_of initials h a.1) w) else starts_from world h m.own initials n more w) done (λ k. ((c && bytes_eq a.1 k) || named_in h more k) || done k)
      by true e go =
          let s : Standing = record { own = m.own; place = n; element = a.2 } in
          let is : known.attribute class a.1 ≡ Some s = listed.0 e in
          began_less (λ k d. swap (bytes_eq a.1 k) (named_in h more k) (done k) d)
          (began_both (by_start a.1 s is (initial_of initials h a.1) (named a.1 firsts) refl (begin.values h m a.1 s below hm is refl) w done)
          (go (word (n + 1)) (start world m.own n a.2 (initial_of initials h a.1) w) (λ k. bytes_eq a.1 k || done k) (subst (λ c. AreKnown known class h m.own (next_place c n) more) e listed.1)))
        where
          swap : (x y z : Bool) → ((x || y) || z) ≡ true → (y || (x || z)) ≡ true
          swap true true z d = refl
          swap true false z d = refl
          swap false true z d = refl
          swap false false z d = d
      by false e go = go n w done (subst (λ c. AreKnown known class h m.own (next_place c n) more) e listed.1)

  -- ---- those of a class and its bases

  from_classes : (k c : ℕ) (m : Laid) → laid world c ≡ Some m → ((h : ℕ) → list_any (λ b. b == h) (line world.classes.classes k c) ≡ true → is_below world.classes.classes class h ≡ true) → (w : Writing) (done : List ℕ → Bool)
      → Began w (starts_within world initials k c w) done (λ n. done_within world k c n || done n)
  unfolding done_within starts
  from_classes zero c m hm within w done = began_none w done
  from_classes (suc k) c m hm within w done =
      subst (λ o. Began w (starts_next (starts_within world initials k) world initials c o w) done (λ n. (named_in c world.attributes n || next_done world (done_within world k) (base world.classes.classes c) n) || done n)) (sym hm)
      (by (base world.classes.classes c) refl (λ b n is w2 done2 go. from_classes k b n is go w2 done2))
    where
      below : is_below world.classes.classes class c ≡ true
      below = within c (in_either (c == c) (list_any (λ b. b == c) (onward_line (line world.classes.classes k) (base world.classes.classes c))) (inl (is_number c c refl)))

      one : Began w (starts_from world c m.own initials 0 world.attributes w) done (λ n. named_in c world.attributes n || done n)
      one = from_class c m below hm 0 world.attributes w done (begin.listed c m below hm)

      by : (o : Option ℕ) → base world.classes.classes c ≡ o
          → ((b : ℕ) (n : Laid) → laid world b ≡ Some n → (w2 : Writing) (done2 : List ℕ → Bool) → ((h : ℕ) → list_any (λ b. b == h) (line world.classes.classes k b) ≡ true → is_below world.classes.classes class h ≡ true) → Began w2 (starts_within world initials k b w2) done2 (λ n. done_within world k b n || done2 n))
          → Began w (onward (starts_within world initials k) (base world.classes.classes c) (starts_from world c m.own initials 0 world.attributes w)) done (λ n. (named_in c world.attributes n || next_done world (done_within world k) (base world.classes.classes c) n) || done n)
      by None e go = subst (λ o. Began w (onward (starts_within world initials k) o (starts_from world c m.own initials 0 world.attributes w)) done (λ n. (named_in c world.attributes n || next_done world (done_within world k) o n) || done n)) (sym e)
          (began_less (λ n d. drop (named_in c world.attributes n) (done n) d) one)
        where
          drop : (x z : Bool) → ((x || false) || z) ≡ true → (x || z) ≡ true
          drop true z d = refl
          drop false z d = d
      by (Some b) e go =
          let above_laid = begin.bases c b m hm e in
          subst (λ o. Began w (onward (starts_within world initials k) o (starts_from world c m.own initials 0 world.attributes w)) done (λ n. (named_in c world.attributes n || next_done world (done_within world k) o n) || done n)) (sym e)
          (began_less (λ n d. swap (named_in c world.attributes n) (done_within world k b n) (done n) d)
          (began_both one (go b above_laid.0 above_laid.1 (starts_from world c m.own initials 0 world.attributes w) (λ n. named_in c world.attributes n || done n)
          (λ h any. within h (in_either (c == h) (list_any (λ b. b == h) (onward_line (line world.classes.classes k) (base world.classes.classes c))) (inr (ap (λ o. list_any (λ b. b == h) (onward_line (line world.classes.classes k) o)) e ∙ any)))))))
        where
          swap : (x y z : Bool) → ((x || y) || z) ≡ true → (y || (x || z)) ≡ true
          swap true true z d = refl
          swap true false z d = refl
          swap false true z d = refl
          swap false false z d = d

  -- all of them
  abbrev count : ℕ
  count = length world.classes.classes

  pub all_began : (w : Writing) → Began w (starts_within world initials count class w) (λ n. false) (λ n. done_within world count class n || false)
  all_began w = from_classes count class l laid_as (λ h any. any) w (λ n. false)

  pub all_done : (name : List ℕ) (s : Stood) → place_in world class name ≡ Some s → (done_within world count class name || false) ≡ true
  all_done name s h = (let k = is_listed world class name s h in ap (λ b. b || false) (done_any world count class k.home_of name k.among k.is))
