-- The resolution of references to IRIs (RFC 3986, sections 3 and 5), over the UTF-8 bytes of texts.
pub mod Components
pub mod DotSegments
pub mod Resolution
pub mod Views
