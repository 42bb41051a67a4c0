-- The one field of a document can be written.
use Rattle.std.proofs.Common.{refl, sym, subst}
use Rattle.httparse.specs.Grammar.{is_token_byte}
use Rattle.cds_http.specs.Written.{CanBeWritten}
use Rattle.cds_serve.proofs.documents.document_reply.Goals as goal

pub write_reply-requires : goal.write_reply-requires
unfolding is_token_byte
write_reply-requires c = subst CanBeWritten (sym c.in_ok-fields.ensures) refl
