-- The numbers of the names that the language knows.
use Rattle.std.proofs.Common.{◌≡◌, ℕ, length, codes, refl}
use Rattle.rpy_nodes.specs.Names.{number}
use Rattle.rpy_nodes.specs.Listing.{known}

none_is : number known (codes "None") ≡ 0
none_is = refl

false_is : number known (codes "False") ≡ 2
false_is = refl

os_is : number known (codes "os") ≡ 3
os_is = refl

rpython_is : number known (codes "rpython") ≡ 5
rpython_is = refl

rarithmetic_is : number known (codes "rarithmetic") ≡ 7
rarithmetic_is = refl

intmask_is : number known (codes "intmask") ≡ 9
intmask_is = refl

write_is : number known (codes "write") ≡ 10
write_is = refl

maxint_is : number known (codes "maxint") ≡ 11
maxint_is = refl

object_is : number known (codes "object") ≡ 12
object_is = refl

exception_is : number known (codes "Exception") ≡ 13
exception_is = refl

notimplementederror_is : number known (codes "NotImplementedError") ≡ 25
notimplementederror_is = refl

len_is : number known (codes "len") ≡ 26
len_is = refl

xrange_is : number known (codes "xrange") ≡ 36
xrange_is = refl

split_is : number known (codes "split") ≡ 37
split_is = refl

iteritems_is : number known (codes "iteritems") ≡ 43
iteritems_is = refl

entry_point_is : number known (codes "entry_point") ≡ 44
entry_point_is = refl

known_count : length known ≡ 45
known_count = refl
