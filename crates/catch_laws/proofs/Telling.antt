-- Whether an exception is one of a class.
use Rattle.std.proofs.Common.{◌≡◌, ◌<◌, ℕ, true, List, [], ◌∷◌, length, Some, sym, ap, ◌∙◌, subst, pos}
use Rattle.std.specs.Prelude.{slice_get}
use Rattle.csub_tree.specs.State.{Value, Word, Flag, Block as Memory, Core}
use Rattle.csub_tree.specs.Layout.{begins_with}
use Rattle.ll_code.specs.State.{Frame, Calling}
use Rattle.ll_code.specs.declared.program.LlProgram.{LlProgram}
use Rattle.ll_leads.proofs.Ways.{Comes}
use Rattle.ll_texts.specs.Texts.{found}
use Rattle.class_desc.specs.Line.{is_below as is_under}
use Rattle.class_desc.specs.Range.{range}
use Rattle.rpy_meaning.specs.Classes.{is_below}
use Rattle.rpy_tree.specs.Value.{Heap}
use Rattle.rtyper_layout.specs.declared.classes.Laid.{Laid}
use Rattle.rtyper_data.specs.declared.small.Small.TheVariants as small
use Rattle.rtyper_class.specs.Seen.{World, laid}
use Rattle.rtyper_program.specs.Handlers.{test_of, asks, structs_in}
use Rattle.object_laws.specs.Done.{HasLayout}
use Rattle.object_laws.specs.Ghost.{Ghost, InstanceOf}
use Rattle.object_laws.specs.Known.{Known, vtable_block}
use Rattle.object_laws.specs.Represents.{Represents, InstanceAt, shapes}
use Rattle.class_laws.specs.Asked.{HasClass}
use Rattle.class_laws.specs.Classes.{IsOf, IsLaidOut}
use Rattle.class_laws.proofs.Fields.{begins_in, place_in_struct}
use Rattle.class_laws.proofs.Telling.{told, told_comes, zero_place, in_range}

test_is : (world : World) (hand : ℕ) (root : Laid) → laid world 0 ≡ Some root → test_of world hand ≡ small.IsInstance root.root root.vtable (range world.classes.classes hand).0 (range world.classes.classes hand).1
unfolding test_of
test_is world hand root is = ap (λ o. asks (structs_in o) (range world.classes.classes hand)) is

-- the small graph that is called says whether the class of an exception is below another
pub exception_told : (world : World) (known : Known) (p : LlProgram) (arguments : List (List ℕ)) (root : Laid) (hand number class r : ℕ) (x : Value) (core : Core) (g : Ghost) (heap : Heap) (left : ℕ) → IsOf world known → IsLaidOut world known → laid world 0 ≡ Some root → HasLayout p world.around.layout
    → hand < length world.classes.classes → HasClass p world known.exception (test_of world hand) number → Represents world.around.layout known g heap left core.blocks core.statics
    → slice_get g.homes r ≡ Some (record { sort = InstanceOf class; head = x }) → is_below known.program.classes class 0 ≡ true
    → (waits : List Frame) → Comes p arguments (Calling number (x ∷ []) waits core) [] (Flag (is_below known.program.classes class hand)) waits core
exception_told world known p arguments root hand number class r x core g heap left of_world out is_laid structs inside has stands home above waits =
    let here : InstanceAt world.around.layout known g heap core.blocks core.statics class r x = stands.instances class r x home in
    let k : Laid = here.laid in
    let below : is_under world.classes.classes class 0 ≡ true = sym (of_world.below class 0) ∙ above in
    let same = out.inherits class 0 k root below here.is_laid is_laid in
    let top = out.root 0 root is_laid in
    let table_top = out.vtable 0 root is_laid in
    let root_in : begins_with (shapes world.around.layout) k.own root.root ≡ true = subst (λ n. begins_with (shapes world.around.layout) k.own n ≡ true) same.0 (out.root class k here.is_laid).1 in
    let table : Memory = vtable_block k.vtable (known.vtable class) in
    let table_is : found core.blocks core.statics (known.vtable class).at ≡ Some table = stands.stays (known.vtable class).at table (stands.vtables class k here.is_laid) in
    let table_in : begins_with (shapes world.around.layout) k.vtable root.vtable ≡ true = subst (λ n. begins_with (shapes world.around.layout) n root.vtable ≡ true) (sym same.1) table_top.1 in
    let bound : k.vtable < length world.around.layout.structs = subst (λ n. n < length world.around.layout.structs) (sym same.1) table_top.0.struct in
    let low : ℕ = (range world.classes.classes hand).0 in
    let high : ℕ = (range world.classes.classes hand).1 in
    let n : ℕ = (range world.classes.classes class).0 in
    let tells : is_under world.classes.classes class hand ≡ in_range low n high = told (is_under world.classes.classes class hand) low n high (of_world.exact class hand (out.class class k here.is_laid).0 inside) in
    subst (λ b. Comes p arguments (Calling number (x ∷ []) waits core) [] (Flag b) waits core) (sym (of_world.below class hand ∙ tells))
    (told_comes p world arguments known.exception root.root root.vtable low high number (subst (λ t. HasClass p world known.exception t number) (test_is world hand root is_laid) has) core x (known.vtable class).at (record { kind = k.own; fields = here.fields; items = [] }) table n
    (begins_in p world root.root k.own structs (out.class class k here.is_laid).1 root_in) (begins_in p world root.vtable k.vtable structs bound table_in)
    (place_in_struct p world root.root 0 structs top.0.struct ∙ zero_place world.around.layout root.root top.0) (place_in_struct p world root.vtable 0 structs table_top.0.struct ∙ zero_place world.around.layout root.vtable table_top.0)
    here.block_is table_is here.vtable (ap (λ n. Word (pos n)) (of_world.number class)) waits)
