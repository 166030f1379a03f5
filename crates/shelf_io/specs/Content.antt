-- The bytes that a content stands for: they are stored, or one byte is repeated. Private functions alone cite this
-- module.
use Rattle.std.specs.Prelude.{ℕ, List, replicate}
use Rattle.shelf_io.specs.declared.content.Content.{Content}
use Rattle.shelf_io.specs.declared.content.Content.TheVariants.{Stored, Repeated}

abbrev pub bytes_of : Content → List ℕ
bytes_of (Stored bytes) = bytes.items
bytes_of (Repeated byte count) = replicate count byte
