-- What the fields of an upload say.
use Rattle.std.specs.Option.{option_map}
use Rattle.bcv_upload.specs.declared.upload.Upload.TheInside.{Inside}
use Rattle.bcv_upload.specs.State.{State}

abbrev pub viewed : Inside → State
viewed t = record {
  base = t.base;
  size = t.size;
  touched = t.touched.items;
  ids = t.ids.items;
  fetched = option_map (λ b. b.items) t.fetched;
  publish = t.publish;
  published = t.published;
}
